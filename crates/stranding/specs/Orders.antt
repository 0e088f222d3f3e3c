-- Request #110: the lists of calls, by the kind of each call and nothing else ("Call orders that strand a start").
use Rattle.std.specs.Prelude.{ℕ, zero, suc, Bool, true, false, ◌&&◌, List, [], ◌∷◌, ◌++◌, map}

-- "accepted point, accepted learn with a forest point, drain": document 01's point is `shingled_point`, its learn is `post_process`
pub data Kind : Type 0 where
  point_kind learn_kind drain_kind : Kind

-- "all 3^n lists": a list of one call more begins with one of the three
abbrev pub orders : ℕ → List (List Kind)
orders zero = [] ∷ []
orders (suc n) = map (point_kind ∷◌) (orders n) ++ (map (learn_kind ∷◌) (orders n) ++ map (drain_kind ∷◌) (orders n))

-- ---- for the theorem that these are all of them, each once (proofs/Orders)

abbrev pub same_kind : Kind → Kind → Bool
same_kind point_kind point_kind = true
same_kind point_kind learn_kind = false
same_kind point_kind drain_kind = false
same_kind learn_kind point_kind = false
same_kind learn_kind learn_kind = true
same_kind learn_kind drain_kind = false
same_kind drain_kind point_kind = false
same_kind drain_kind learn_kind = false
same_kind drain_kind drain_kind = true

abbrev pub same_order : List Kind → List Kind → Bool
same_order [] [] = true
same_order [] (d ∷ v) = false
same_order (c ∷ w) [] = false
same_order (c ∷ w) (d ∷ v) = same_kind c d && same_order w v
