-- Calls of zeros, at the newest time, are accepted wherever they stand in a short list.
use Prim.Native.Nat.{ℕ, zero, suc, ◌+◌, ◌*◌, ◌≤◌, ◌<◌}
use native.Mathlib.Nat.{mul-le-mul}
use native.Mathlib.Omega.{arith}
use mathlib.Core.Path.{◌≡◌, refl}
use mathlib.Core.Bool.{Bool, true, false, cond, not, ◌||◌, and-false}
use mathlib.Core.List.{List, [], ◌∷◌, ◌++◌}
use mathlib.Core.Option.{none, some}
use lib.Dec.{ltb, leb, eqb}
use lib.ListN.{length, replicate, length-append, length-replicate}
use lib.IntN
use lib.Ieee.{of_bits}
use borrow.Author.Tests.{le-ltb, lt-leb, eq-eqb}
use Rattle.common.specs.Deviation.{count_limit}
use Rattle.trcf.specs.Types.{normalizes}
use Rattle.trcf.specs.Transformer.{zero32}
use Rattle.trcf.specs.Settings.{Settings, block, dimension}
use Rattle.trcf.specs.Calls.{seen_limit, finite, newest, before_newest, wrong_length, outside, learn_full, waiting_short, learn_short, table, rows}
use Rattle.restart.specs.History.{Entry, initial_entry, learned_entry, drained_entry as F, initials, learns, is_drained, fed_of, seen_of, internal_of, count_of, history_facts, history_refusal}
use Rattle.restart.proofs.Lists.{length_pairs}
use Rattle.snapshot.proofs.Accepted.{none_refuses}
use Rattle.stranding.specs.Orders.{point_kind, learn_kind}
use Rattle.restart.proofs.Step.{Phase}
use Rattle.stranding_history.proofs.Calls.{never_full}
use Rattle.stranding_history.specs.CallOrders.{zero_learn, zero_call}

-- ---- numbers of entries

kinds : (es : List Entry) → length (initials es) + length (learns es) ≤ length es
kinds [] = omega arith
kinds (initial_entry x t ∷ es) = simp length-append (omega (arith, kinds es))
kinds (learned_entry x t y ∷ es) = simp length-append (omega (arith, kinds es))
kinds (F ∷ es) = omega (arith, kinds es)

one_more_lem : {A : Type 0} (l : List A) (b : Bool) (x : A) → length (l ++ cond b (x ∷ []) []) ≤ suc (length l)
one_more_lem l true x = simp length-append (omega arith)
one_more_lem l false x = simp length-append (omega arith)

fed_few : (s : Settings) (es : List Entry) → length (fed_of s es) ≤ length es * length es
fed_few s [] = omega arith
fed_few s (initial_entry x t ∷ es) = omega (arith, fed_few s es)
fed_few s (learned_entry x t y ∷ es) =
    let h : length (fed_of s (learned_entry x t y ∷ es)) ≤ suc (length (fed_of s es)) = one_more_lem (fed_of s es) (ltb (seen_of es) s.stop) _ in
    omega (arith, fed_few s es, h)
fed_few s (F ∷ es) = simp (length-append, length_pairs) (omega (arith, fed_few s es, kinds es))

zeros_finite : (n : ℕ) → finite (replicate n zero32) ≡ true
unfolding finite of_bits
zeros_finite zero = refl
zeros_finite (suc n) = zeros_finite n

-- ---- no row meets the calls

module _ (s : Settings) (m : normalizes s.method ≡ true) (pos : 0 < s.start) (few : s.start ≤ 2000) (es : List Entry) (v : Phase s es) (short : length es ≤ 20) where
  wide : (n : ℕ) → not (eqb (length (replicate n zero32)) n) ≡ false
  wide n = rw (length-replicate n zero32, eq-eqb n n refl)

  roomy : (n : ℕ) → ltb (length (replicate n zero32)) n ≡ false
  roomy n = rw (length-replicate n zero32, le-ltb n n (omega arith))

  row_12 : ltb (newest (history_facts s es)) (newest (history_facts s es)) ≡ false
  row_12 = let n = newest (history_facts s es) in le-ltb n n (omega arith)

  row_28 : before_newest s (history_facts s es) (newest (history_facts s es)) ≡ false
  unfolding before_newest
  row_28 = rw (row_12, and-false)

  pub point_accepted : history_refusal s es (zero_call s es point_kind) ≡ 0
  unfolding history_refusal rows table
  point_accepted =
      none_refuses (table s (history_facts s es) (zero_call s es point_kind))
      (wide s.d, (rw (zeros_finite s.d), (row_28, (rw (never_full s m pos few es v, and-false), (rw (roomy (dimension s), and-false), tt)))))

  seen_few : seen_of es ≤ 20
  unfolding seen_of
  seen_few = omega (arith, kinds es)

  internal_few : internal_of es ≤ 20
  unfolding internal_of
  internal_few = go (is_drained es)
    where
      go : (b : Bool) → length (learns es) + cond b (length (initials es)) 0 ≤ 20
      go true = omega (arith, kinds es)
      go false = omega (arith, kinds es)

  count_few : count_of s es ≤ 400
  unfolding count_of
  count_few = omega (arith, fed_few s es, mul-le-mul short short)

  not_full : learn_full s (history_facts s es) ≡ false
  unfolding learn_full history_facts
  not_full =
      rw (
        lt-leb count_limit (count_of s es) (omega (arith, count_few)),
        lt-leb seen_limit (seen_of es) (omega (arith, seen_few)),
        lt-leb seen_limit (internal_of es) (omega (arith, internal_few)),
        and-false,
      )

  same_either : {A : Type 0} (b : Bool) (x : A) → cond b x x ≡ x
  same_either true x = refl
  same_either false x = refl

  -- rows 13, 14, 18 and 20 of the learn
  row_13 : wrong_length s (some (replicate (dimension s) zero32)) || wrong_length s none ≡ false
  unfolding wrong_length
  row_13 = rw (wide (dimension s))

  row_14 : outside s.k (IntN.pos 0) ≡ false
  unfolding outside
  row_14 = refl

  row_18 : leb seen_limit (history_facts s es).values_seen ≡ false
  unfolding history_facts
  row_18 = lt-leb seen_limit (seen_of es) (omega (arith, seen_few))

  row_20 : (waiting_short s (history_facts s es) (zero_learn s es) ≡ false) × (learn_short s (zero_learn s es) ≡ false)
  unfolding waiting_short learn_short
  row_20 = (rw (roomy (block s), and-false), rw (roomy (block s), and-false))

  pub learn_accepted : history_refusal s es (zero_call s es learn_kind) ≡ 0
  unfolding history_refusal rows table
  learn_accepted =
      none_refuses (table s (history_facts s es) (zero_call s es learn_kind)) (
        wide s.d,
        (
          rw (zeros_finite s.d),
          (
            row_12,
            (
              rw (row_13, and-false),
              (rw (row_14, and-false, and-false), (rw (row_18, not_full, same_either), (rw (row_20.0, row_20.1, same_either), tt))),
            ),
          ),
        ),
      )
