-- What is put away of a text that was taken up: its bytes, or, where it lacks the codes' line, the same with a line of zeros after line 2.
use Prim.Native.Nat.{ℕ}
use mathlib.Core.Path.{◌≡◌, refl, sym, ap, ◌∙◌}
use mathlib.Core.Bool.{Bool, true, false}
use mathlib.Core.List.{List}
use lib.ListN.{replicate}
use Rattle.trcf.specs.Preprocessor.{State}
use Rattle.snapshot.specs.Text.{chn_line, cnt_line, body_lines, lines_by, bytes_of, render, TextOf}
use Rattle.snapshot.specs.Read.{carries, with_channel_line, read, taken}
use Rattle.snapshot.proofs.Clean.{lines_clean}
use Rattle.snapshot.proofs.ReadLine.{bytes_join, cells_render}
use Rattle.snapshot.proofs.ReadText.{lines_text, read_sound}

kept_by : (w : State) (b : Bool) → (b ≡ false → w.settings.codes ≡ replicate w.settings.d 0) → render w ≡ with_channel_line w.settings.d (bytes_of (lines_by b w))
unfolding with_channel_line carries render lines_by body_lines chn_line cnt_line
kept_by w true z = rw (lines_text true w, cells_render (chn_line w.settings.codes) (lines_clean true w).1.1.0)
kept_by w false z = rw (lines_text false w, sym (z refl)) (bytes_join (lines_by true w))

pub text_kept : (t : List ℕ) (w : State) → TextOf w t → render w ≡ with_channel_line w.settings.d t
text_kept t w x = kept_by w x.coded x.all_zero ∙ ap (with_channel_line w.settings.d) x.is

-- saving what was read
pub read_kept : (t : List ℕ) (w : State) → read t ≡ taken w → render w ≡ with_channel_line w.settings.d t
read_kept t w e = text_kept t w (read_sound t w e).1
