-- What was saved is read again as the state that was saved.
use Prim.Native.Nat.{ℕ, ◌≤◌}
use mathlib.Core.Path.{◌≡◌, ap, ◌∙◌}
use mathlib.Core.List.{List}
use lib.ListN.{length, take, drop}
use lib.Seq.{take-append_seam}
use borrow.Author.Tests.{le-ltb}
use Rattle.refusal.specs.Lent.{over}
use Rattle.trcf.specs.declared.head.Preprocessor.{Preprocessor}
use Rattle.trcf.specs.View.{Lent, view}
use Rattle.snapshot.specs.Form.{Form}
use Rattle.snapshot.specs.Text.{render}
use Rattle.snapshot.specs.Read.{taken, read}
use Rattle.snapshot.specs.Save.{SaveOutcome, save_outcome, fitted, save_of}
use Rattle.snapshot.proofs.SaveForm.{Savable, saved_fitted}
use Rattle.snapshot.proofs.ReadText.{read_complete}

module _ (h : Preprocessor) (l : Lent) (out : List ℕ) (sound : Savable h l) (room : length (render (view h l)) ≤ length out) where
  pub saved : save_of h l out ≡ save_outcome 0 (length (render (view h l))) (over out (render (view h l)))
  unfolding fitted
  saved = saved_fitted h l sound out ∙ rw (le-ltb (length out) (length (render (view h l))) room)

  -- the bytes of the text, out of those that were lent
  text : take (length (render (view h l))) (over out (render (view h l))) ≡ render (view h l)
  unfolding over
  text = take-append_seam (render (view h l)) (drop (length (render (view h l))) out)

  pub saved_text : take (save_of h l out).length (save_of h l out).bytes ≡ render (view h l)
  saved_text = ap (λ (o : SaveOutcome). take o.length o.bytes) saved ∙ text

  pub saved_read : Form (view h l) → read (take (save_of h l out).length (save_of h l out).bytes) ≡ taken (view h l)
  saved_read g = ap read saved_text ∙ read_complete (view h l) g
