-- How much room a text takes at most, by d, k and start: proofs/TextRoom.antt proves it.
use Rattle.std.specs.Prelude.{ℕ, ◌+◌, ◌*◌, ◌≤◌, length}
use Rattle.trcf.specs.Preprocessor.{State}
use Rattle.snapshot.specs.Text.{render}
use Rattle.snapshot.specs.Form.{Form}

-- line by line, each at its longest: `set`, `wgt`, `chn`, `cnt`; 5d + 5 lines `dev`; `inp`, `pnt`, `tim`; a line `buf` for each reading that can wait
abbrev pub text_room : ℕ → ℕ → ℕ → ℕ
text_room d k start =
    (66 + (4 + 9 * d) + (4 + 6 * d) + 61)
    + (55 * (5 * d + 5) + (4 + 9 * (d * k)) + (4 + 9 * ((d + 1) * k)) + (4 + 21 * k) + start * (25 + 9 * d))

abbrev pub TextFits : Type 0
TextFits = (w : State) → Form w → length (render w) ≤ text_room w.settings.d w.settings.k w.settings.start
