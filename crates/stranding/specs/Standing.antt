-- Request #110: what a list of calls makes of the initial values. The history has the same standings, read off its entries: the crate
-- stranding_history proves for each call that what happens here is what the call adds there.
use Rattle.std.specs.Prelude.{ℕ, suc, cond, List, [], ◌∷◌, ltb, eqb}
use Rattle.stranding.specs.Orders.{Kind, point_kind, learn_kind, drain_kind}

-- "still waiting to be drained, drained, or stranded": waiting with the number of initial values so far, none at first
pub data Standing : Type 0 where
  still_waiting : ℕ → Standing
  now_drained now_stranded : Standing

-- Document 01: "Drain, or an accepted point, adds F when the entries are exactly start W's"; otherwise neither changes anything,
-- and "a drain met by row 15 still counts as a call"
unfoldable pub after_drain : ℕ → ℕ → Standing
after_drain start j = cond (eqb j start) now_drained (still_waiting j)

-- Document 01: "An accepted learn while waiting adds W(x, t)"; "an L before F strands them for good"
unfoldable pub after_learn : ℕ → ℕ → Standing
after_learn start j = cond (ltb j start) (still_waiting (suc j)) now_stranded

-- one call; what is drained or stranded is so for good
abbrev pub step : ℕ → Standing → Kind → Standing
step start (still_waiting j) point_kind = after_drain start j
step start (still_waiting j) learn_kind = after_learn start j
step start (still_waiting j) drain_kind = after_drain start j
step start now_drained c = now_drained
step start now_stranded c = now_stranded

-- the calls of a list, one after the other
abbrev pub standing_after : ℕ → Standing → List Kind → Standing
standing_after start q [] = q
standing_after start q (c ∷ cs) = standing_after start (step start q c) cs
