-- Row 28 over the newest time and over the state. Assumes nothing.
use Prim.Native.Nat.{ℕ}
use mathlib.Core.Path.{◌≡◌, ap, ◌∙◌}
use mathlib.Core.Bool.{Bool, ◌&&◌}
use lib.Dec.{ltb}
use Rattle.trcf.specs.Types.{is_gap}
use Rattle.trcf.specs.Calls.{before_newest, newest}
use Rattle.trcf.specs.Preprocessor.{facts}
use Rattle.trcf.specs.View.{Lent, settings_of, view, newest_of}
use Rattle.trcf.specs.declared.head.Preprocessor.{Preprocessor}

pub behind_is : (h : Preprocessor) (l : Lent) (t : ℕ) (b : Bool) (n : ℕ) → b ≡ (is_gap h.forest_mode && ltb t n)
    → n ≡ newest_of h l.previous_timestamps l.initial_timestamps → b ≡ before_newest (settings_of h) (facts (view h l)) t
unfolding before_newest newest facts view
behind_is h l t b n e f = e ∙ ap (λ (m : ℕ). is_gap h.forest_mode && ltb t m) f
