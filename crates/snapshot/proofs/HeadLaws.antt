-- The lines `set`, `wgt`, `chn` and `cnt`: where they break off, and the head that they give.
use Prim.Native.Nat.{ℕ, ◌+◌}
use native.Mathlib.Omega.{arith}
use mathlib.Core.Path.{◌≡◌, refl, sym, ap, ◌∙◌, subst}
use mathlib.Core.Bool.{Bool, true, false, not, ◌||◌, false≢true}
use mathlib.Core.List.{List, ◌++◌}
use mathlib.Core.Option.{Option, none, some, some-injective, none-ne-some}
use lib.ListN.{length, drop, replicate, get_or}
use lib.Dec.{leb, ltb, eqb}
use lib.Ieee.{Float}
use borrow.Author.Tests.{ltb-false, leb-false}
use Rattle.common.specs.Deviation.{outside_unit}
use Rattle.refusal.specs.Lent.{over}
use Rattle.trcf.proofs.ShingleLaws.{over_part}
use Rattle.trcf.specs.declared.types.ForestMode.{ForestMode}
use Rattle.trcf.specs.declared.types.TransformMethod.{TransformMethod}
use Rattle.trcf.specs.Transformer.{zero32}
use Rattle.trcf.specs.Settings.{Settings}
use Rattle.snapshot.specs.Read.{as_whole, Counts, with_lists}
use Rattle.snapshot.specs.Steps.Judge.{onto, byte, name, fields, mode_in, method_in, set_test, settings_with, settings_if_read, tail_by, Codes, chn_or, chn_by, set_by, wgt_by, cnt_by}
use Rattle.snapshot.proofs.Lists.{and_left, and_right}
use Rattle.snapshot.proofs.JudgeLines.{onto_some}
use Rattle.snapshot.specs.Steps.Runs.{ran, broke, head_read, head_by, head_with_counts, head_with, Few}

module _ (t : List ℕ) where
  pub head_set : none ≡ set_by t → broke 1 ≡ head_by t
  unfolding head_by
  head_set q = rw (sym q)

  module _ (s : Settings) (l₁ : List ℕ) (e : some (s, l₁) ≡ set_by t) where
    -- read into m places
    module _ (m : ℕ) where
      pub head_wgt : none ≡ wgt_by s.method m l₁ → m ≡ s.d → broke 2 ≡ head_by t
      unfolding head_by
      head_wgt q h = rw (sym e, sym h, sym q)

      module _ (v : List Float) (l₂ : List ℕ) (f : some (v, l₂) ≡ wgt_by s.method m l₁) (h : m ≡ s.d) where
        module _ (k : Codes) (j : k ≡ chn_or s.d (chn_by s.d l₂) l₂) where
          j' : k ≡ chn_or m (chn_by m l₂) l₂
          j' = subst (λ (n : ℕ). k ≡ chn_or n (chn_by n l₂) l₂) (sym h) j

          pub head_cnt : none ≡ cnt_by s.method s.start k.rest → broke (3 + k.extra) ≡ head_by t
          unfolding head_by
          head_cnt q = let n : 3 + k.extra ≡ 1 + (1 + (k.extra + 1)) = omega arith in ap broke n ∙ rw (sym e, sym h, sym f, sym j', sym q)

          pub head_all : (c : Counts) (l₃ : List ℕ) → some (c, l₃) ≡ cnt_by s.method s.start k.rest → ran (head_read (with_lists s v k.codes) c k.extra) l₃ ≡ head_by t
          unfolding head_by
          head_all c l₃ q = rw (sym e, sym h, sym f, sym j', sym q)

-- the weights stand in an array, and so do the codes, zeros after them
pub head_is : (s : Settings) (v : List Float) (cs b : List ℕ) (c : Counts) (n : ℕ) → length v ≡ s.d → b ≡ over (replicate 16 0) cs
    → head_with s (v ++ drop s.d (replicate 16 zero32)) b c ≡ head_with_counts (head_read (with_lists s v cs) c n)
head_is s v cs b c n e g = λ i. head_with s (over_part (replicate 16 zero32) v s.d e i) (g i) c

-- ---- what settings that are read keep to

neither : (a b : Bool) → not (a || b) ≡ true → (a ≡ false) × (b ≡ false)
neither true b e = absurd (false≢true e)
neither false true e = absurd (false≢true e)
neither false false e = (refl, refl)

not_so : (a : Bool) → not a ≡ true → a ≡ false
not_so true e = absurd (false≢true e)
not_so false e = refl

test_few : (d k start stop : ℕ) (decay : Float) → set_test d k start stop decay ≡ true → Few d k start
unfolding set_test
test_few d k start stop decay h =
    let h1 = and_right (not (eqb d 0)) _ h in
    let h2 = and_right (not (eqb k 0)) _ h1 in
    let w = neither (ltb 16 d) (ltb 64 k) (and_left (not (ltb 16 d || ltb 64 k)) _ h2) in
    let h3 = and_right (not (ltb 16 d || ltb 64 k)) _ h2 in
    let h4 = and_right (not (outside_unit decay)) _ h3 in
    let h5 = and_right (not (ltb stop start)) _ h4 in
    record {
      d_few = ltb-false 16 d w.0;
      k_few = ltb-false 64 k w.1;
      start_few = leb-false 2000 start (not_so (leb 2000 start) h5);
    }

settled_few : (m : ForestMode) (k : TransformMethod) (w : List ℕ) (o : Option ((Float × Float) × List ℕ)) (r : Settings × List ℕ)
    → settings_if_read m k w o ≡ some r → Few r.0.d r.0.k r.0.start
settled_few m k w none r e = absurd (none-ne-some r e)
settled_few m k w (some q) r e = go (set_test (get_or w 1 0) (get_or w 2 0) (get_or w 3 0) (get_or w 4 0) q.0.0) refl
  where
    go : (b : Bool) → set_test (get_or w 1 0) (get_or w 2 0) (get_or w 3 0) (get_or w 4 0) q.0.0 ≡ b → Few r.0.d r.0.k r.0.start
    go true h =
        let i : (settings_with m k w q.0.0 q.0.1, q.1) ≡ r = some-injective _ r (rw h at e) in
        subst (λ (x : Settings × List ℕ). Few x.0.d x.0.k x.0.start) i (test_few (get_or w 1 0) (get_or w 2 0) (get_or w 3 0) (get_or w 4 0) q.0.0 h)
    go false h = absurd (none-ne-some r (rw h at e))

pub set_few : (t : List ℕ) (s : Settings) (z : List ℕ) → some (s, z) ≡ set_by t → Few s.d s.k s.start
unfolding set_by
set_few t s z e =
    let a = onto_some (onto (name 115 101 116 t) (byte 9)) _ (s, z) (sym e) in
    let b = onto_some (mode_in a.0) _ (s, z) a.2 in
    let c = onto_some (fields as_whole 5 (drop 1 a.0)) _ (s, z) b.2 in
    let d = onto_some (method_in (get_or c.0.0 0 0)) _ (s, z) c.2 in
    settled_few b.0 d.0 c.0.0 (tail_by c.0.1) (s, z) d.2
