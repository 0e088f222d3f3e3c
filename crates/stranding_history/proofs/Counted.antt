-- The numbers over the history are the answer of `strandings`.
use Prim.Native.Nat.{ℕ, zero, suc, ◌+◌, ◌≤◌, ◌<◌}
use native.Mathlib.Omega.{arith}
use mathlib.Core.Path.{◌≡◌, refl, sym, ap, ◌∙◌}
use mathlib.Core.Bool.{Bool, true, false, cond}
use mathlib.Core.List.{List, [], ◌∷◌, ◌++◌, map}
use lib.ListN.{length, replicate}
use borrow.Author.Tests.{le-ltb}
use Rattle.trcf.specs.Fit.{All}
use Rattle.trcf.specs.Types.{normalizes}
use Rattle.trcf.specs.declared.types.TransformMethod.TheVariants.{NORMALIZE}
use Rattle.trcf.specs.Transformer.{zero32}
use Rattle.trcf.specs.Settings.{Settings, dimension, waiting as waits, Valid}
use Rattle.trcf.specs.Calls.{Call, drain}
use Rattle.trcf.specs.Preprocessor.{accepted}
use Rattle.trcf.proofs.FitLaws.{all_append}
use Rattle.restart.specs.History.{Entry, initial_entry, learned_entry, drained_entry as F, seen_of, history_refusal, complete, adds, enter, entries}
use Rattle.restart.proofs.Step.{Inv, step as kept, begins}
use Rattle.restart.proofs.Reachable.{k>0_of}
use Rattle.stranding.specs.Orders.{Kind, point_kind, learn_kind, drain_kind, orders}
use Rattle.stranding.specs.Standing.{Standing, still_waiting, standing_after}
use Rattle.stranding.specs.Counts.{ends_waiting, ends_drained, ends_stranded, count, counts_by, counts, out_of_range, strandings_of}
use Rattle.stranding.proofs.Recurrence.{counts_add_up}
use Rattle.stranding_history.specs.CallOrders.{standing_of, Of, a_point, a_learn, a_drain, is_counted, Calls, end, then, zero_learn, zero_call, zero_calls, Strandings}
use Rattle.stranding_history.proofs.Calls.{drain_counts, calls_leave}
use Rattle.stranding_history.proofs.ZeroCalls.{point_accepted, learn_accepted}
use Rattle.stranding_history.proofs.MachineCalls.{zeros_machine}

-- ---- the orders of n calls have n calls

longer : (c : Kind) (n : ℕ) (ws : List (List Kind)) → All (λ (w : List Kind). length w ≡ n) ws → All (λ (w : List Kind). length w ≡ suc n) (map (c ∷◌) ws)
longer c n [] p = tt
longer c n (w ∷ ws) p = (ap suc p.0, longer c n ws p.1)

orders_of_length : (n : ℕ) → All (λ (w : List Kind). length w ≡ n) (orders n)
orders_of_length zero = (refl, tt)
orders_of_length (suc n) =
    let ws = orders n in
    let p = orders_of_length n in
    let P : List Kind → Type 0 = λ w. length w ≡ suc n in
    all_append P (map (point_kind ∷◌) ws) (map (learn_kind ∷◌) ws ++ map (drain_kind ∷◌) ws) (longer point_kind n ws p)
    (all_append P (map (learn_kind ∷◌) ws) (map (drain_kind ∷◌) ws) (longer learn_kind n ws p) (longer drain_kind n ws p))

-- tests that agree count the same
count_same : {A : Type 0} (P : A → Type 0) (f g : A → Bool) → ((x : A) → P x → f x ≡ g x) → (xs : List A) → All P xs → count f xs ≡ count g xs
count_same P f g h [] p = refl
count_same P f g h (x ∷ xs) p = rw (h x p.0, count_same P f g h xs p.1)

-- a call of these adds one entry at most
one_more_lem : (n : ℕ) (b : Bool) (a es fs : List Entry) → length fs ≤ suc (length es) → length a ≤ suc (length es) → length (accepted n (cond b fs a) es) ≤ suc (length es)
one_more_lem zero true a es fs h k = h
one_more_lem zero false a es fs h k = k
one_more_lem (suc n) b a es fs h k = omega arith

grows : (s : Settings) (es : List Entry) (x : Kind) → length (enter s es (zero_call s es x)) ≤ suc (length es)
unfolding enter adds
grows s es point_kind = one_more_lem (history_refusal s es (zero_call s es point_kind)) (complete s es) es es (F ∷ es) (omega arith) (omega arith)
grows s es learn_kind =
    one_more_lem (history_refusal s es (zero_call s es learn_kind)) (waits s (seen_of es)) (learned_entry (zero_learn s es).input (zero_learn s es).timestamp (replicate (dimension s) zero32) ∷ es) es
    (initial_entry (zero_learn s es).input (zero_learn s es).timestamp ∷ es) (omega arith) (omega arith)
grows s es drain_kind = one_more_lem (history_refusal s es drain) (complete s es) es es (F ∷ es) (omega arith) (omega arith)

module _ (s : Settings) (m : normalizes s.method ≡ true) (pos : 0 < s.start) (few : s.start ≤ 20) (k>0 : 0 < s.k) where
  below : s.start ≤ 2000
  below = omega arith

  counts_here : (es : List Entry) → Inv s es → length es ≤ 20 → (x : Kind) → Of x (zero_call s es x) × (is_counted x (history_refusal s es (zero_call s es x)) ≡ true)
  counts_here es v h point_kind = (a_point _ _ _, rw (point_accepted s m pos below es v.phase h))
  counts_here es v h learn_kind = (a_learn (zero_learn s es) (replicate (dimension s) zero32) refl, rw (learn_accepted s m pos below es v.phase h))
  counts_here es v h drain_kind = (a_drain, drain_counts s m pos below es v.phase)

  zeros_from : (xs : List Kind) (es : List Entry) → Inv s es → length es + length xs ≤ 20 → Calls s es xs (zero_calls s es xs)
  zeros_from [] es v h = end
  zeros_from (x ∷ xs) es v h =
      let a = counts_here es v (omega arith) x in
      then a.0 a.1 (zeros_from xs (enter s es (zero_call s es x)) (kept s k>0 es v (zero_call s es x)).1 (omega (arith, grows s es x)))

  module _ (n : ℕ) (calls : List Kind → List Call) (ok : (w : List Kind) → length w ≡ n → Calls s [] w (calls w)) where
    same_class : (f : Standing → Bool)
        → count (λ (w : List Kind). f (standing_of (entries s (calls w)))) (orders n) ≡ count (λ (w : List Kind). f (standing_after s.start (still_waiting 0) w)) (orders n)
    same_class f =
        count_same (λ (w : List Kind). length w ≡ n) (λ (w : List Kind). f (standing_of (entries s (calls w)))) (λ (w : List Kind). f (standing_after s.start (still_waiting 0) w))
        (λ w h. ap f (calls_leave s m pos below k>0 w (calls w) (ok w h))) (orders n) (orders_of_length n)

    same_counts : counts_by (λ (w : List Kind). standing_of (entries s (calls w))) n ≡ counts s.start n
    unfolding counts_by counts
    same_counts = rw (same_class ends_waiting, same_class ends_drained, same_class ends_stranded)

in_range : (n : ℕ) → 0 < n → n ≤ 20 → out_of_range n ≡ false
unfolding out_of_range
in_range n p q = rw (le-ltb n 1 p, le-ltb 20 n q)

-- THEOREM: request #110, for both methods that normalize
pub strandings_normalizing : (s : Settings) → Valid s → normalizes s.method ≡ true → 0 < s.start → s.start ≤ 20 → (n : ℕ) → 0 < n → n ≤ 20 → Strandings s n
unfolding strandings_of counts
strandings_normalizing s ok m pos few n p q =
    let k>0 : 0 < s.k = k>0_of s ok in
    let a : out_of_range s.start ≡ false = in_range s.start pos few in
    let b : out_of_range n ≡ false = in_range n p q in
    let lo : s.start ≤ 2000 = omega arith in
    record {
      some_arguments = λ w h. (zeros_from s m pos few k>0 w [] (begins s k>0) (omega arith), zeros_machine s ok w);
      any_arguments = λ w cs ds f g. calls_leave s m pos lo k>0 w cs f ∙ sym (calls_leave s m pos lo k>0 w ds g);
      counts = λ calls h. same_counts s m pos few k>0 n calls h ∙ rw (a, b);
      sum = rw (a, b) (counts_add_up (standing_after s.start (still_waiting 0)) n);
    }

-- THEOREM: request #110
pub strandings_of_the_history : (s : Settings) → Valid s → s.method ≡ NORMALIZE → 0 < s.start → s.start ≤ 20 → (n : ℕ) → 0 < n → n ≤ 20 → Strandings s n
strandings_of_the_history s ok e pos few n p q = strandings_normalizing s ok (ap normalizes e) pos few n p q
