-- Following a plan: what was taken came line by line; a bad line is one after which no text of the plan goes on.
use Prim.Native.Nat.{ℕ, zero, suc, ◌<◌}
use native.Mathlib.Omega.{arith}
use mathlib.Core.Path.{◌≡◌, refl, sym, ap, ◌∙◌, subst}
use mathlib.Core.List.{List, [], ◌∷◌, nil≢cons, cons≢nil, head-eq_of_cons-eq, tail-eq_of_cons-eq}
use mathlib.Core.Option.{Option, none, some}
use lib.ListN.{take}
use Rattle.trcf.specs.Preprocessor.{State}
use Rattle.snapshot.specs.Read.{bytes_of_line, LineKind, judge, Plan, plan_end, plan_line, Read, taken, bad, later, ended, read_then, follow}
use Rattle.snapshot.proofs.ReadLine.{Hold, Writes, judge_back, judged}

-- ---- answers

abbrev is_bad : Read → Type 0
is_bad (taken w) = ⊥
is_bad (bad n) = Unit {0}

pub not_both : {n : ℕ} {w : State} (r : Read) → r ≡ bad n → r ≡ taken w → ⊥
not_both r p q = subst is_bad (sym p ∙ q) tt

abbrev line_no : Read → ℕ
line_no (taken w) = 0
line_no (bad n) = n

abbrev state_or : State → Read → State
state_or u (taken w) = w
state_or u (bad n) = u

pub taken_inj : (v w : State) → taken v ≡ taken w → v ≡ w
taken_inj v w e = ap (state_or v) e

later_taken : (r : Read) (w : State) → later r ≡ taken w → r ≡ taken w
later_taken (taken v) w e = e
later_taken (bad n) w e = absurd (not_both (bad (suc n)) refl e)

later_bad : (r : Read) (n : ℕ) → later r ≡ bad (suc n) → r ≡ bad n
later_bad (taken v) n e = absurd (not_both (taken v) e refl)
later_bad (bad m) n e = ap bad (omega (arith, ap line_no e))

-- ---- one line

-- a line that is judged, and what stands after it
pub record Took {A : Type 0} (c : LineKind A) (X : A → List (List ℕ) → Type 0) (ls : List (List ℕ)) : Type 0 where
  pub a : A
  pub rest : List (List ℕ)
  pub is : bytes_of_line (c.write a) ∷ rest ≡ ls
  pub holds : Hold (c.tests a)
  pub more : X a rest

module _ (e : Option State) (A : Type 0) (c : LineKind A) (k : A → Plan) (w : State) where
  pub give : (a : A) (ls : List (List ℕ)) → Writes c a → follow (k a) ls ≡ taken w → follow (plan_line e A c k) (bytes_of_line (c.write a) ∷ ls) ≡ taken w
  give a ls h g = rw (judge_back c a h, g)

  module _ (X : A → List (List ℕ) → Type 0) (f : (a : A) (r : List (List ℕ)) → follow (k a) r ≡ taken w → X a r) where
    pub took_cons : (l : List ℕ) (ls : List (List ℕ)) → follow (plan_line e A c k) (l ∷ ls) ≡ taken w → Took c X (l ∷ ls)
    took_cons l ls h = go (judge c l) refl
      where
        go : (o : Option A) → judge c l ≡ o → Took c X (l ∷ ls)
        go none q = absurd (not_both (bad 1) refl (rw q at h))
        go (some a) q =
            let j = judged c l a q in
            record { a = a; rest = ls; is = λ i. j.0 i ∷ ls; holds = j.1; more = f a ls (later_taken (follow (k a) ls) w (rw q at h)) }

pub took : (A : Type 0) (c : LineKind A) (k : A → Plan) (w : State) (X : A → List (List ℕ) → Type 0) → ((a : A) (r : List (List ℕ)) → follow (k a) r ≡ taken w → X a r)
    → (ls : List (List ℕ)) → follow (plan_line none A c k) ls ≡ taken w → Took c X ls
took A c k w X f [] h = absurd (not_both (bad 1) refl h)
took A c k w X f (l ∷ ls) h = took_cons none A c k w X f l ls h

-- ---- the bad line

ended_one : (e : Option State) (n : ℕ) → ended e ≡ bad n → n ≡ 1
ended_one none n h = sym (ap line_no h)
ended_one (some w) n h = absurd (not_both (taken w) h refl)

later_pos : (r : Read) → later r ≡ bad 0 → ⊥
later_pos (taken v) h = not_both (taken v) h refl
later_pos (bad m) h = omega (arith, ap line_no h)

next_pos : {A : Type 0} (o : Option A) (g : A → Read) → read_then o (λ a. later (g a)) ≡ bad 0 → ⊥
next_pos none g h = omega (arith, ap line_no h)
next_pos (some a) g h = later_pos (g a) h

-- a bad line is the same in every text that agrees up to it
pub same_bad : (p : Plan) (n : ℕ) (ls ms : List (List ℕ)) → follow p ls ≡ bad n → take n ms ≡ take n ls → follow p ms ≡ bad n
same_bad (plan_end v) n [] ms h q = absurd (not_both (taken v) h refl)
same_bad (plan_end v) n (l ∷ ls) [] h q = let e : n ≡ 1 = sym (ap line_no h) in absurd (nil≢cons (rw e at q))
same_bad (plan_end v) n (l ∷ ls) (m ∷ ms) h q = h
same_bad (plan_line e A c k) n [] [] h q = h
same_bad (plan_line e A c k) n [] (m ∷ ms) h q = let z : n ≡ 1 = ended_one e n h in absurd (cons≢nil (rw z at q))
same_bad (plan_line e A c k) zero (l ∷ ls) ms h q = absurd (next_pos (judge c l) (λ a. follow (k a) ls) h)
same_bad (plan_line e A c k) (suc n) (l ∷ ls) [] h q = absurd (nil≢cons q)
same_bad (plan_line e A c k) (suc n) (l ∷ ls) (m ∷ ms) h q = go (judge c l) refl (λ a. same_bad (k a) n ls ms)
  where
    go : (o : Option A) → judge c l ≡ o → ((a : A) → follow (k a) ls ≡ bad n → take n ms ≡ take n ls → follow (k a) ms ≡ bad n) → follow (plan_line e A c k) (m ∷ ms) ≡ bad (suc n)
    go none z ih = rw (head-eq_of_cons-eq q, z) (rw z at h)
    go (some a) z ih = rw (head-eq_of_cons-eq q, z) (ap later (ih a (later_bad (follow (k a) ls) n (rw z at h)) (tail-eq_of_cons-eq q)))

-- a plan that can always be gone on with
abbrev pub Live : Plan → Type 0
Live (plan_end w) = Unit {0}
Live (plan_line e A c k) = (a : A) × Writes c a × ((b : A) → Hold (c.tests b) → Live (k b))

pub alive : (p : Plan) → Live p → (w : State) × (ms : List (List ℕ)) × (follow p ms ≡ taken w)
alive (plan_end w) h = (w, [], refl)
alive (plan_line e A c k) h =
    let r = alive (k h.0) (h.2 h.0 h.1.holds) in
    (r.0, bytes_of_line (c.write h.0) ∷ r.1, give e A c k r.0 h.0 r.1 h.1 r.2)

-- what stands before the bad line begins a text that is taken
pub good_before : (p : Plan) → Live p → (m n : ℕ) (ls : List (List ℕ)) → follow p ls ≡ bad n → m < n → (w : State) × (ms : List (List ℕ)) × (follow p ms ≡ taken w) × (take m ms ≡ take m ls)
good_before p v zero n ls h q = let r = alive p v in (r.0, r.1, r.2, refl)
good_before (plan_end w) v (suc m) n [] h q = absurd (not_both (taken w) h refl)
good_before (plan_end w) v (suc m) n (l ∷ ls) h q = absurd (omega (arith, ap line_no h))
good_before (plan_line e A c k) v (suc m) n [] h q = absurd (omega (arith, ended_one e n h))
good_before (plan_line e A c k) v (suc m) zero (l ∷ ls) h q = absurd (omega arith)
good_before (plan_line e A c k) v (suc m) (suc n) (l ∷ ls) h q = go (judge c l) refl (λ a t. good_before (k a) (v.2 a t) m n ls)
  where
    go : (o : Option A) → judge c l ≡ o → ((a : A) → Hold (c.tests a) → follow (k a) ls ≡ bad n → m < n → (w : State) × (ms : List (List ℕ)) × (follow (k a) ms ≡ taken w) ×
        (take m ms ≡ take m ls)) → (w : State) × (ms : List (List ℕ)) × (follow (plan_line e A c k) ms ≡ taken w) × (take (suc m) ms ≡ take (suc m) (l ∷ ls))
    go none z ih = absurd (omega (arith, ap line_no (rw z at h)))
    go (some a) z ih =
        let r = ih a (judged c l a z).1 (later_bad (follow (k a) ls) n (rw z at h)) (omega arith) in
        (r.0, l ∷ r.1, rw (z, r.2), ap (λ (t : List (List ℕ)). l ∷ t) r.3)
