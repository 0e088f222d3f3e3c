-- The bad line in bytes: what a text of the form begins with.
use Prim.Native.Nat.{ℕ, zero, suc, ◌≤◌, ◌<◌}
use native.Mathlib.Omega.{arith}
use mathlib.Core.Path.{◌≡◌, refl, sym, ap, ◌∙◌}
use mathlib.Core.Bool.{Bool, true, false, cond}
use mathlib.Core.List.{List, [], ◌∷◌, ◌++◌, append_assoc}
use lib.ListN.{length, take, drop, take-append-drop, length-take}
use lib.Seq.{take-append-le, take-take}
use lib.Dec.{eqb}
use borrow.Author.Tests.{eqb-false, ne_eqb}
use Rattle.trcf.specs.Settings.{All}
use Rattle.trcf.specs.Preprocessor.{State}
use Rattle.snapshot.specs.Form.{Form}
use Rattle.snapshot.specs.Text.{TextOf}
use Rattle.snapshot.specs.Read.{push, lines, join, read, bad}
use Rattle.snapshot.proofs.ReadLine.{join_lines}
use Rattle.snapshot.proofs.ReadText.{read_first_bad}

join_append : (a b : List (List ℕ)) → join (a ++ b) ≡ join a ++ join b
join_append [] b = refl
join_append (x ∷ xs) b = ap (λ (t : List ℕ). x ++ t) (join_append xs b) ∙ sym (append_assoc x (join xs) (join b))

-- before the bad line: some text of the form begins with these bytes
pub begun : (t : List ℕ) (n : ℕ) → read t ≡ bad n → (m : ℕ) → m < n → (w : State) × (u : List ℕ) × Form w × TextOf w u × (r : List ℕ) × (u ≡ join (take m (lines t)) ++ r)
begun t n e m h =
    let a = (read_first_bad t n e).one_before m h in
    let l : List (List ℕ) = lines a.1 in (
      a.0,
      a.1,
      a.2,
      a.3,
      join (drop m l),
      sym (join_lines a.1) ∙ ap join (sym (take-append-drop m l)) ∙ join_append (take m l) (drop m l) ∙ ap
          (λ (k : List (List ℕ)). join k ++ join (drop m l)) a.4,
    )

-- how many lines are ended
abbrev pub ends : List ℕ → ℕ
ends [] = 0
ends (b ∷ t) = let r = ends t in cond (eqb b 10) (suc r) r

data Ended : List ℕ → Type 0 where
  last : Ended (10 ∷ [])
  more : {b : ℕ} {l : List ℕ} → (b ≡ 10 → ⊥) → Ended l → Ended (b ∷ l)

ended_line : {l : List ℕ} → Ended l → (x : List ℕ) → lines (l ++ x) ≡ l ∷ lines x
ended_line last x = refl
ended_line (more {b = b} h e) x = rw (ne_eqb b 10 h, ended_line e x)

ended_lines : (ls : List (List ℕ)) → All Ended ls → (x : List ℕ) → lines (join ls ++ x) ≡ ls ++ lines x
ended_lines [] h x = refl
ended_lines (l ∷ ls) h x = rw append_assoc (ended_line h.0 (join ls ++ x) ∙ ap (λ (k : List (List ℕ)). l ∷ k) (ended_lines ls h.1 x))

pushed : (b n : ℕ) (ls : List (List ℕ)) → (b ≡ 10 → ⊥) → All Ended (take n ls) × (n ≤ length ls) → All Ended (take n (push b ls)) × (n ≤ length (push b ls))
pushed b zero ls h k = (tt, omega arith)
pushed b (suc n) [] h k = absurd (omega (arith, k.1))
pushed b (suc n) (l ∷ ls) h k = ((more h k.0.0, k.0.1), k.1)

all_ended : (t : List ℕ) (n : ℕ) → n ≤ ends t → All Ended (take n (lines t)) × (n ≤ length (lines t))
all_ended t zero h = (tt, omega arith)
all_ended [] (suc n) h = absurd (omega arith)
all_ended (b ∷ t) (suc n) h = go (eqb b 10) refl (λ k. all_ended t n k) (λ k. all_ended t (suc n) k)
  where
    go : (c : Bool) → eqb b 10 ≡ c → (n ≤ ends t → All Ended (take n (lines t)) × (n ≤ length (lines t))) → (suc n ≤ ends t → All Ended (take (suc n) (lines t)) × (suc n ≤ length (lines t)))
        → All Ended (take (suc n) (lines (b ∷ t))) × (suc n ≤ length (lines (b ∷ t)))
    go true e i j = let k : suc n ≤ suc (ends t) = rw e at h in let r = i (omega arith) in rw e ((last, r.0), omega (arith, r.1))
    go false e i j = rw e (pushed b (suc n) (lines t) (eqb-false b 10 e) (j (rw e at h)))

-- at the bad line, where it is ended: no text of the form begins with these bytes
pub not_begun : (t : List ℕ) (n : ℕ) → read t ≡ bad n → n ≤ ends t → (w : State) (u : List ℕ) → Form w → TextOf w u → (r : List ℕ) → u ≡ join (take n (lines t)) ++ r → ⊥
not_begun t n e h w u f x r q =
    let k = all_ended t n h in
    (read_first_bad t n e).none_here (
      w,
      u,
      f,
      x,
      ap (λ (u : List ℕ). take n (lines u)) q ∙ ap (take n) (ended_lines (take n (lines t)) k.0 r)
          ∙ take-append-le n (take n (lines t)) (lines r) (simp length-take (omega (arith, k.1))) ∙ take-take n n (lines t) (omega arith),
    )
