-- Request #107 of what the program holds: the promise of `invert_extrapolation` is `extrapolation_of`. Assumes nothing.
use Prim.Native.Nat.{ℕ, zero, suc}
use mathlib.Core.Path.{◌≡◌, refl, sym, ap, ◌∙◌}
use mathlib.Core.List.{List}
use lib.ListN.{length}
use Rattle.refusal.specs.Refusal.{first_of}
use native.Mathlib.Omega.{arith}
use lib.Ieee.{Float}
use Rattle.trcf.specs.Calls.{Forecast, sizes, sizes_of, forecast_table, invert_extrapolation, table, rows}
use Rattle.trcf.specs.Preprocessor.{turned, refused, accepted, facts, turned_back, refusal, reply, answer}
use Rattle.trcf.specs.View.{view, settings_of, head_row, or_else}
use Rattle.trcf.specs.Extrapolation.{viewed, read_short_row, row_at, extrapolation_row, extrapolation_of}
use Rattle.trcf.proofs.ExtrapolationLaws.{row_is}
use Rattle.trcf.specs.declared.head.Preprocessor.{Preprocessor}
use Rattle.band.specs.Band.{AllAsLong, Turns, Leaves, HeldBand}
use Rattle.band.proofs.Upright.{band}

module _ (h : Preprocessor) (st x : List Float) (ts : List ℕ) (c r : Forecast) where
  no_row : extrapolation_row h st x ts c ≡ 0 → rows (settings_of h) (facts (viewed h st x ts)) (invert_extrapolation c) ≡ 0
  unfolding extrapolation_row row_at rows table
  no_row e = middle (head_row (settings_of h)) (first_of (forecast_table (settings_of h) (sizes_of c))) (read_short_row h (length st) (length x) (length ts)) e
    where
      middle : (a b c : ℕ) → or_else a (or_else b c) ≡ 0 → b ≡ 0
      middle zero zero c e = refl
      middle zero (suc b) c e = e
      middle (suc a) b c e = absurd (omega arith)

  turns : Leaves h st x ts c r → Turns (viewed h st x ts) c r
  unfolding extrapolation_of viewed view answer refusal reply
  turns l =
      let z : rows (settings_of h) (facts (viewed h st x ts)) (invert_extrapolation c) ≡ 0 = no_row l.0 in
      rw z (ap turned (left (extrapolation_row h st x ts c) l.0 l.1))
    where
      left : (n : ℕ) → n ≡ 0 → accepted n (turned_back (viewed h st x ts) c) c ≡ r → turned_back (viewed h st x ts) c ≡ r
      left zero z e = e
      left (suc n) z e = absurd (omega arith)

pub held_band : HeldBand
unfolding viewed view extrapolation_of
held_band =
    record {
      upright = λ h st x ts c r l whole. band.upright (viewed h st x ts) c r (turns h st x ts c r l) whole;
      values = λ h st x ts c e r q l m p. band.values (viewed h st x ts) c e r q (turns h st x ts c r l) (turns h st x ts e q m) p;
      uppers = λ h st x ts c e r q l m p g. band.uppers (viewed h st x ts) c e r q (turns h st x ts c r l) (turns h st x ts e q m) p g;
      refused = λ h st x ts c e l. sym (row_is h st x ts c) ∙ ap (row_at h (length st) (length x) (length ts)) (same_sizes c e l) ∙ row_is h st x ts e;
    }
  where
    same_sizes : (c e : Forecast) → AllAsLong c e → sizes_of c ≡ sizes_of e
    same_sizes c e l = λ j.
        sizes (l.forecast.values j) (l.forecast.upper j) (l.forecast.lower j) (l.values_out.values j) (l.values_out.upper j) (l.values_out.lower j)
        (l.times_out.values j) (l.times_out.upper j) (l.times_out.lower j)
