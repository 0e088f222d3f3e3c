-- What calls with their roles do is what the granted ones do: of a state, of what the program holds, and of the history's entries. Assumes nothing.
use Prim.Native.Nat.{ℕ}
use mathlib.Core.Path.{◌≡◌, refl, sym, ap, ◌∙◌}
use mathlib.Core.Bool.{Bool, true, false, cond}
use mathlib.Core.List.{List, [], ◌∷◌, ◌++◌, map, append_assoc}
use lib.ListN.{take, drop}
use Rattle.trcf.specs.Calls.{Call}
use Rattle.access_restart.specs.Asked.{Asked, allowed, granted_calls, with_withheld, guarded_step, guarded_run, guarded_places, guarded_answers}

-- the list t has what is seen at each place of the granted calls: at a withheld call it stays
abbrev pub stayed : {P : Type 0} → List ℕ → List Asked → List P → List P
stayed table [] t = t
stayed table (a ∷ l) t = take 1 t ++ stayed table l (cond (allowed table a) (drop 1 t) t)

pub granted_append : (table : List ℕ) (l m : List Asked) → granted_calls table (l ++ m) ≡ granted_calls table l ++ granted_calls table m
granted_append table [] m = refl
granted_append table (a ∷ l) m =
    ap (λ (q : List Call). cond (allowed table a) (a.call ∷ []) [] ++ q) (granted_append table l m)
    ∙ sym (append_assoc (cond (allowed table a) (a.call ∷ []) []) (granted_calls table l) (granted_calls table m))

module _ {M : Type 0} (step : M → Call → M) (table : List ℕ) where
  -- ---- `runs` goes through a list by `step`

  module _ (runs : M → List Call → M) (none : (m : M) → runs m [] ≡ m) (more : (m : M) (c : Call) (cs : List Call) → runs m (c ∷ cs) ≡ runs (step m c) cs) where
    pub run_granted : (m : M) (l : List Asked) → guarded_run step table m l ≡ runs m (granted_calls table l)
    run_granted m [] = sym (none m)
    run_granted m (a ∷ l) = by (allowed table a) refl (λ n. run_granted n l)
      where
        by : (b : Bool) → allowed table a ≡ b → ((n : M) → guarded_run step table n l ≡ runs n (granted_calls table l))
            → guarded_run step table m (a ∷ l) ≡ runs m (granted_calls table (a ∷ l))
        by true e rest = rw e (rest (step m a.call) ∙ sym (more m a.call (granted_calls table l)))
        by false e rest = rw e (rest m)

  -- ---- `says` by `say`

  module _ {B : Type 0} (say : M → Call → B) (withheld : Call → B) (says : M → List Call → List B)
      (more : (m : M) (c : Call) (cs : List Call) → says m (c ∷ cs) ≡ say m c ∷ says (step m c) cs) where
    pub answers_granted : (m : M) (l : List Asked) → guarded_answers step say withheld table m l ≡ with_withheld withheld table l (says m (granted_calls table l))
    answers_granted m [] = refl
    answers_granted m (a ∷ l) = by (allowed table a) refl (λ n. answers_granted n l)
      where
        by : (b : Bool) → allowed table a ≡ b → ((n : M) → guarded_answers step say withheld table n l ≡ with_withheld withheld table l (says n (granted_calls table l)))
            → guarded_answers step say withheld table m (a ∷ l) ≡ with_withheld withheld table (a ∷ l) (says m (granted_calls table (a ∷ l)))
        by true e rest = rw (e, more m a.call (granted_calls table l)) (ap (λ (q : List B). say m a.call ∷ q) (rest (step m a.call)))
        by false e rest = rw e (ap (λ (q : List B). withheld a.call ∷ q) (rest m))

  -- ---- `sees` by `look`, at each place

  module _ {P : Type 0} (look : M → P) (sees : M → List Call → List P) (none : (m : M) → sees m [] ≡ look m ∷ [])
      (more : (m : M) (c : Call) (cs : List Call) → sees m (c ∷ cs) ≡ look m ∷ sees (step m c) cs) where
    front : (m : M) (cs : List Call) → take 1 (sees m cs) ≡ look m ∷ []
    front m [] = rw (none m)
    front m (c ∷ cs) = rw (more m c cs)

    pub places_granted : (m : M) (l : List Asked) → guarded_places step look table m l ≡ stayed table l (sees m (granted_calls table l))
    places_granted m [] = sym (none m)
    places_granted m (a ∷ l) = by (allowed table a) refl (λ n. places_granted n l)
      where
        by : (b : Bool) → allowed table a ≡ b → ((n : M) → guarded_places step look table n l ≡ stayed table l (sees n (granted_calls table l)))
            → guarded_places step look table m (a ∷ l) ≡ stayed table (a ∷ l) (sees m (granted_calls table (a ∷ l)))
        by true e rest = rw (e, more m a.call (granted_calls table l)) (ap (λ (q : List P). look m ∷ q) (rest (step m a.call)))
        by false e rest = rw (e, front m (granted_calls table l)) (ap (λ (q : List P). look m ∷ q) (rest m))

  -- two that look the same see the same
  pub places_same : {P : Type 0} (look other : M → P) → ((m : M) → look m ≡ other m) → (m : M) (l : List Asked) → guarded_places step look table m l ≡ guarded_places step other table m l
  places_same look other e m [] = λ j. e m j ∷ []
  places_same look other e m (a ∷ l) = λ j. e m j ∷ places_same look other e (guarded_step step table m a) l j

  pub places_map : {P Q : Type 0} (f : P → Q) (look : M → P) (m : M) (l : List Asked) → map f (guarded_places step look table m l) ≡ guarded_places step (λ (n : M). f (look n)) table m l
  places_map f look m [] = refl
  places_map f look m (a ∷ l) = ap (λ q. f (look m) ∷ q) (places_map f look (guarded_step step table m a) l)

  -- and so what is read of what `sees` sees
  module _ {P Q : Type 0} (f : P → Q) (look : M → P) (sees : M → List Call → List P) (none : (m : M) → sees m [] ≡ look m ∷ [])
      (more : (m : M) (c : Call) (cs : List Call) → sees m (c ∷ cs) ≡ look m ∷ sees (step m c) cs) where
    pub places_read : (m : M) (l : List Asked) → map f (guarded_places step look table m l) ≡ stayed table l (map f (sees m (granted_calls table l)))
    places_read m l =
        places_map f look m l
        ∙ places_granted (λ (n : M). f (look n)) (λ (n : M) (cs : List Call). map f (sees n cs)) (λ n. ap (map f) (none n)) (λ n c cs. ap (map f) (more n c cs)) m l
