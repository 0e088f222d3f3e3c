-- The calls of zeros are ones that the program can be given: their times are the history's own.
use Prim.Native.Nat.{ℕ, ◌≤◌}
use native.Mathlib.Omega.{arith}
use mathlib.Core.Path.{◌≡◌, refl, subst}
use mathlib.Core.Bool.{Bool, true, false, cond}
use mathlib.Core.List.{List, [], ◌∷◌, ◌++◌}
use lib.Dec.{T, eqb}
use lib.ListN.{replicate}
use lib.Ieee.{Float, binary32, fits}
use lib.Ieee.Bits.{of_bits-fits}
use Rattle.trcf.specs.Lists.{last_or}
use Rattle.trcf.specs.Fit.{All, Fits}
use Rattle.trcf.specs.Transformer.{zero32}
use Rattle.trcf.specs.Settings.{Settings, dimension, whole_max, Whole, Valid}
use Rattle.trcf.specs.Calls.{Call, newest, Machine}
use Rattle.trcf.proofs.FitLaws.{all_append}
use Rattle.snapshot.specs.Form.{Form}
use Rattle.snapshot.proofs.Lists.{all_replicate}
use Rattle.restart.specs.History.{Entry, timestamps_of, internal_of, timestamps, buffer_of, history_state, history_facts, enter, entries_from, entries}
use Rattle.restart.proofs.Step.{run_history}
use Rattle.restart.proofs.Reachable.{k>0_of, run_form}
use Rattle.stranding.specs.Orders.{Kind, point_kind, learn_kind, drain_kind}
use Rattle.stranding_history.specs.CallOrders.{zero_call, zero_calls}

last_whole : (a : ℕ) (l : List ℕ) → a ≤ whole_max → Whole l → last_or a l ≤ whole_max
last_whole a [] h w = h
last_whole a (x ∷ l) h w = last_whole x l w.0 w.1

zeros_fit : (n : ℕ) → Fits binary32 (replicate n zero32)
zeros_fit n = all_replicate (λ (x : Float). T (fits binary32 x)) n zero32 (of_bits-fits binary32 0)

-- one call more
entered : (s : Settings) (es : List Entry) (cs : List Call) (c : Call) → entries_from s es (cs ++ (c ∷ [])) ≡ enter s (entries_from s es cs) c
entered s es [] c = refl
entered s es (b ∷ cs) c = entered s (enter s es b) cs c

module _ (s : Settings) (ok : Valid s) where
  -- the newest time of a history of machine values is one
  newest_whole : (cs : List Call) → All Machine cs → newest (history_facts s (entries s cs)) ≤ whole_max
  unfolding newest history_facts history_state
  newest_whole cs m =
      let es = entries s cs in
      let f : Form (history_state s es) = subst Form (run_history s (k>0_of s ok) cs) (run_form s ok cs m) in
      go (eqb (internal_of es) 0) (timestamps (buffer_of es)) (timestamps_of s es) f.initial_times_fit f.times_fit
    where
      go : (b : Bool) (l p : List ℕ) → Whole l → Whole p → cond b (last_or 0 l) (last_or 0 p) ≤ whole_max
      go true l p v w = last_whole 0 l (omega arith) v
      go false l p v w = last_whole 0 p (omega arith) w

  zero_machine : (cs : List Call) → All Machine cs → (x : Kind) → Machine (zero_call s (entries s cs) x)
  zero_machine cs m point_kind = tt
  zero_machine cs m learn_kind = (zeros_fit s.d, newest_whole cs m, zeros_fit (dimension s))
  zero_machine cs m drain_kind = tt

  zeros_after : (xs : List Kind) (cs : List Call) → All Machine cs → All Machine (zero_calls s (entries s cs) xs)
  unfolding entries
  zeros_after [] cs m = tt
  zeros_after (x ∷ xs) cs m =
      let c = zero_call s (entries s cs) x in
      let a : Machine c = zero_machine cs m x in
      let r : All Machine (zero_calls s (entries s (cs ++ (c ∷ []))) xs) = zeros_after xs (cs ++ (c ∷ [])) (all_append Machine cs (c ∷ []) m (a, tt)) in
      (a, subst (λ (es : List Entry). All Machine (zero_calls s es xs)) (entered s [] cs c) r)

  pub zeros_machine : (xs : List Kind) → All Machine (zero_calls s [] xs)
  unfolding entries
  zeros_machine xs = zeros_after xs [] tt
