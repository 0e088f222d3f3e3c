-- The text in two parts, as it is written. Only private contracts and proofs cite this.
use Rattle.std.specs.Prelude.{ℕ, List, ◌++◌, Float}
use Rattle.trcf.specs.Settings.{Settings}
use Rattle.snapshot.specs.Text.{wgt, inp, pnt, set_line, singles, chn_line, cnt_line, dev_lines, tim_line, buf_lines, bytes_of}
use Rattle.snapshot.specs.Read.{bytes_of_line}

unfoldable pub head_bytes : Settings → ℕ → ℕ → ℕ → List ℕ
head_bytes s seen internal count =
    bytes_of_line (set_line s)
    ++ (bytes_of_line (singles wgt s.weights) ++ (bytes_of_line (chn_line s.codes) ++ bytes_of_line (cnt_line seen internal count)))

unfoldable pub list_bytes : ℕ → List Float → List Float → List Float → List ℕ → List Float → List ℕ → List ℕ
list_bytes d statistics input point times values initial =
    bytes_of (dev_lines statistics)
    ++ (bytes_of_line (singles inp input)
    ++ (bytes_of_line (singles pnt point) ++ (bytes_of_line (tim_line times) ++ bytes_of (buf_lines d values initial))))
