-- Demand 3 where learns are fed with filled readings: whatever the filler leaves, a program can hold. Assumes nothing.
use Prim.Native.Nat.{ℕ, zero, suc, ◌+◌, ◌-◌, ◌*◌, ◌/◌, ◌%◌, ◌≤◌}
use mathlib.Core.Bool.{Bool, true, false, cond}
use mathlib.Core.List.{List, [], ◌∷◌}
use mathlib.Core.Path.{◌≡◌, ap}
use native.Mathlib.Omega.{arith}
use lib.Dec.{T}
use lib.ListN.{length, get_or, take, drop}
use lib.IntN.{pos}
use lib.Ieee.{Float, nan, binary32, mul, sub, div, of_int, fits}
use lib.Ieee.Fits.{nan-fits, add-fits, cond-fits}
use Rattle.trcf.specs.Fit.{All, Fits}
use Rattle.trcf.specs.Settings.{whole_max}
use Rattle.trcf.specs.Calls.{Learn, Call, Machine, drain}
use Rattle.trcf.proofs.FitLaws.{all_take, all_drop, all_get_d}
use Rattle.series.specs.declared.imputation.ImputationMethod.{ImputationMethod}
use Rattle.series.specs.declared.imputation.ImputationMethod.TheVariants.{FIXED, PREVIOUS, NEXT, LINEAR}
use Rattle.std.specs.Prelude.{Option, Some, None}
use Rattle.series.specs.declared.imputation.Present.{Present}
use Rattle.series.specs.Imputation.{is_present, present_at, nearest_before, nearest_from, copy_of, interpolated, fill_of, present_in, cell_in, missing_of, imputed_at, by_place, imputed}
use Rattle.series.specs.Imputation.{impute_row, Imputation, impute_answer, impute_of}
use Rattle.series.proofs.ImputationTheorems.{accepted}
use Rattle.restart_program.proofs.Program.{program_demand_3}
use Rattle.imputation_restart.specs.FilledLearns.{Filling, fed_with, learns_with, filled_learns, Timed, Holdable, MachineOrFilled, other, filled, FilledDemand3}

abbrev Single : Float → Type 0
Single x = T (fits binary32 x)

-- ---- one cell

-- what a search found fits
abbrev Found : Option Present → Type 0
Found (Some p) = Single p.value
Found None = Unit {0}

module _ (present : ℕ → Bool) (value : ℕ → Float) (h : (i : ℕ) → Single (value i)) where
  found_before : (i : ℕ) → Found (nearest_before present value i)
  found_before zero = tt
  found_before (suc i) = by (present i) (found_before i)
    where
      by : (b : Bool) → Found (nearest_before present value i) → Found (cond b (present_at i (value i)) (nearest_before present value i))
      by true k = h i
      by false k = k

  found_from : (n i : ℕ) → Found (nearest_from present value n i)
  found_from zero i = tt
  found_from (suc n) i = by (present i) (found_from n (suc i))
    where
      by : (b : Bool) → Found (nearest_from present value n (suc i)) → Found (cond b (present_at i (value i)) (nearest_from present value n (suc i)))
      by true k = h i
      by false k = k

copy_fits : (side : Option Present) (fixed : Float) → Found side → Single fixed → Single (copy_of side fixed)
copy_fits (Some p) fixed h k = h
copy_fits None fixed h k = k

line_fits : (a b : Float) (p q : ℕ) → Single (interpolated a b p q)
unfolding interpolated
line_fits a b p q = add-fits binary32 a (mul binary32 (sub binary32 b a) (div binary32 (of_int binary32 (pos p)) (of_int binary32 (pos q))))

fill_fits : (m : ImputationMethod) (before after : Option Present) (i : ℕ) (fixed : Float) → Found before → Found after → Single fixed
    → Single (fill_of m before after i fixed)
fill_fits FIXED before after i fixed b a k = k
fill_fits PREVIOUS before after i fixed b a k = copy_fits before fixed b k
fill_fits NEXT before after i fixed b a k = copy_fits after fixed a k
fill_fits LINEAR (Some r) (Some s) i fixed b a k = line_fits r.value s.value (i - r.reading) (s.reading - r.reading)
fill_fits LINEAR (Some r) None i fixed b a k = b
fill_fits LINEAR None after i fixed b a k = copy_fits after fixed a k

-- ---- all cells

by_place_fits : (f : ℕ → Float → Float) (l : List Float) → ((k : ℕ) (x : Float) → Single x → Single (f k x)) → Fits binary32 l → Fits binary32 (by_place f l)
unfolding by_place
by_place_fits f [] h k = tt
by_place_fits f (x ∷ xs) h k = (h 0 x k.0, by_place_fits (λ (i : ℕ). f (suc i)) xs (λ (i : ℕ) (y : Float) (g : Single y). h (suc i) y g) k.1)

module _ (m : ImputationMethod) (d : ℕ) (cells : List Float) (marks : List ℕ) (fixed : List Float) (hc : Fits binary32 cells) (hf : Fits binary32 fixed) where
  missing_fits : (c i : ℕ) (x : Float) → Single x → Single (missing_of m d cells marks x c i)
  unfolding missing_of
  missing_fits c i x h =
      let present = present_in d marks c in
      let value = cell_in d cells c in
      let v : (k : ℕ) → Single (value k) = λ (k : ℕ). all_get_d Single cells (k * d + c) nan (nan-fits binary32) hc in
      fill_fits m (nearest_before present value i) (nearest_from present value (length cells / d - suc i) (suc i)) i x
      (found_before present value v i)
      (found_from present value v (length cells / d - suc i) (suc i))
      h

  imputed_fits : Fits binary32 (imputed m d cells marks fixed)
  unfolding imputed imputed_at
  imputed_fits =
      by_place_fits (imputed_at m d cells marks fixed) cells
      (λ (k : ℕ) (x : Float) (h : Single x).
      cond-fits binary32 (is_present (get_or marks k 0)) x (missing_of m d cells marks (get_or fixed (k % d) nan) (k % d) (k / d)) h
      (missing_fits (k % d) (k / d) (get_or fixed (k % d) nan) (all_get_d Single fixed (k % d) nan (nan-fits binary32) hf)))
      hc

  pub answer_fits : Fits binary32 (impute_of m d cells marks fixed).cells
  unfolding impute_of
  answer_fits = by (impute_row d cells marks fixed)
    where
      by : (n : ℕ) → Fits binary32 (impute_answer n cells (imputed m d cells marks fixed)).cells
      by zero = imputed_fits
      by (suc n) = hc

-- ---- the learns

fed_machine : (d : ℕ) (cells : List Float) (qs : List Learn) → Fits binary32 cells → All Timed qs → All Machine (learns_with d cells qs)
fed_machine d cells [] h k = tt
fed_machine d cells (q ∷ qs) h k =
    let time : (fed_with (take d cells) q).timestamp ≤ whole_max = omega (arith, k.0.0) in
    ((all_take Single d cells h, time, k.0.1), fed_machine d (drop d cells) qs (all_drop Single d cells h) k.1)

pub filled_machine : (g : Filling) → Holdable g → All Machine (filled_learns g)
unfolding filled_learns
filled_machine g h =
    fed_machine g.d (impute_of g.method g.d g.cells g.marks g.fixed).cells g.learns
    (answer_fits g.method g.d g.cells g.marks g.fixed h.cells_fit h.fixed_fit)
    h.learns_fit

-- where no row refuses, the learns are fed with the filled readings
pub accepted_learns : (g : Filling) → impute_row g.d g.cells g.marks g.fixed ≡ 0
    → filled_learns g ≡ learns_with g.d (imputed g.method g.d g.cells g.marks g.fixed) g.learns
unfolding filled_learns
accepted_learns g e =
    ap (λ (a : Imputation). learns_with g.d a.cells g.learns) (accepted g.method g.d g.cells g.marks g.fixed e)

call_machine : (c : Call) → MachineOrFilled c → Machine c
call_machine c (other _ h) = h
call_machine c (filled g h i k) = all_get_d Machine (filled_learns g) i drain tt (filled_machine g h)

calls_machine : (cs : List Call) → All MachineOrFilled cs → All Machine cs
calls_machine [] h = tt
calls_machine (c ∷ cs) h = (call_machine c h.0, calls_machine cs h.1)

pub filled_demand_3 : FilledDemand3
filled_demand_3 s v before after b a first second f g out last h =
    program_demand_3 s v before after (calls_machine before b) (calls_machine after a) first second f g out last h
