-- Line 3 as the code reads it: the codes in an array, zeros after them.
use Prim.Native.Nat.{ℕ, zero, suc, ◌≤◌}
use native.Mathlib.Omega.{arith}
use mathlib.Core.Path.{◌≡◌, refl, sym, ap, ◌∙◌, subst}
use mathlib.Core.Bool.{true}
use mathlib.Core.List.{List, ◌∷◌, ◌++◌, append-nil}
use mathlib.Core.Option.{Option, none, some}
use lib.ListN.{length, take, replicate, length-append}
use lib.Seq.{take_at}
use Rattle.refusal.specs.Lent.{over}
use Rattle.trcf.proofs.DrainLaws.{front_over}
use Rattle.trcf.proofs.ShingleLaws.{over_take}
use Rattle.snapshot.specs.Read.{as_whole, all_codes}
use Rattle.snapshot.specs.Steps.Judge.{list_line, codes_read, chn_or, chn_by}
use Rattle.snapshot.proofs.JudgeKinds.{checked_some}

take_zeros : (n d : ℕ) → d ≤ n → take d (replicate {A = ℕ} n 0) ≡ replicate d 0
take_zeros n zero h = refl
take_zeros zero (suc d) h = absurd (omega arith)
take_zeros (suc n) (suc d) h = ap (λ (l : List ℕ). 0 ∷ l) (take_zeros n d (omega arith))

pub none_or : (d m : ℕ) (l : List ℕ) → d ≤ 16 → m ≡ d → none ≡ chn_by m l → codes_read 0 (take d (replicate 16 0)) l ≡ chn_or d (chn_by d l) l
none_or d m l h e q =
    let q' : chn_by d l ≡ none = sym (subst (λ (k : ℕ). none ≡ chn_by k l) e q) in
    ap (λ (cs : List ℕ). codes_read 0 cs l) (take_zeros 16 d h) ∙ sym (ap (λ (o : Option (List ℕ × List ℕ)). chn_or d o l) q')

pub none_over : (d : ℕ) → d ≤ 16 → replicate {A = ℕ} 16 0 ≡ over (replicate 16 0) (take d (replicate 16 0))
none_over d h = sym (over_take (replicate 16 0) d h)

pub some_or : (d m : ℕ) (l z v own : List ℕ) → m ≡ d → length v ≡ d → some (v, z) ≡ chn_by m l → own ≡ over (replicate 16 0) v
    → (codes_read 1 (take d own) z ≡ chn_or d (chn_by d l) l) × (own ≡ over (replicate 16 0) (take d own))
some_or d m l z v own e n q g =
    let q' : chn_by d l ≡ some (v, z) = sym (subst (λ (k : ℕ). some (v, z) ≡ chn_by k l) e q) in
    let f : take d own ≡ v = ap (take d) g ∙ front_over (replicate 16 0) v d n in
    (ap (λ (cs : List ℕ). codes_read 1 cs z) f ∙ sym (ap (λ (o : Option (List ℕ × List ℕ)). chn_or d o l) q'), g ∙ ap (over (replicate 16 0)) (sym f))

pub codes_pass : (m : ℕ) (l v z : List ℕ) → some (v, z) ≡ chn_by m l → all_codes v ≡ true
unfolding chn_by
codes_pass m l v z e = (checked_some all_codes (list_line as_whole 99 104 110 m l) (v, z) (sym e)).1

-- a list as long as the one that it is laid over
pub over_all_lem : (w : List ℕ) → length w ≡ 16 → over (replicate 16 0) w ≡ w
unfolding over
over_all_lem w e = rw e (append-nil w)

-- a list in front of others
pub front_fits : (v z : List ℕ) (d : ℕ) → length v ≡ d → d ≤ length (v ++ z)
front_fits v z d e = simp length-append (omega (arith, e))

pub front_is : (v z : List ℕ) (d : ℕ) → length v ≡ d → take d (v ++ z) ≡ v
front_is v z d e = take_at v z d e
