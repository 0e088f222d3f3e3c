-- A preprocessor in words is the one by value: on the words of a head that `build` accepts, a call gives what it gives on the head, and leaves the
-- words of the head after it. Assumes nothing.
use Prim.Native.Nat.{ℕ, zero, suc}
use mathlib.Core.Bool.{true}
use mathlib.Core.List.{List, [], ◌∷◌, ◌++◌}
use mathlib.Core.Path.{◌≡◌, refl, sym, ap, ◌∙◌}
use lib.ListN.{length}
use lib.Ieee.{Float}
use Rattle.trcf.specs.Calls.{Learn, drain, shingled_point, post_process}
use Rattle.trcf.specs.Preprocessor.{State, accepted, change}
use Rattle.trcf.specs.View.{outside_row, Lent, view, counted, row_of, head_after, lent_after, drain_of, point_after, learn_after}
use Rattle.trcf.specs.declared.head.Preprocessor.{Preprocessor}
use Rattle.access.specs.declared.rights.Right.{Right}
use Rattle.access.specs.declared.rights.Right.TheVariants.{SEE, LEARN}
use Rattle.access.specs.Access.{granted}
use Rattle.capi.specs.Head.{head_of, words_of, counts_over, HeadFits}
use Rattle.capi.specs.Calls.{open_row, flag, called, drain_told, drain_at, point_called, point_told, point_at, AnomalyOut, learn_called, anomaly_told, learn_told, learn_at}
use Rattle.capi.proofs.HeadLaws.{head_back, in_use, counts_in_words}
use Rattle.capi.proofs.CallLaws.{done as answered}

module _ (h : Preprocessor) (rest : List ℕ) (v : State) where
  -- the words after a call of the row r that makes of the head the state v
  after : (r : ℕ)
      → accepted r (counts_over (words_of h ++ rest) (accepted r (counted h v) h)) (words_of h ++ rest) ≡ words_of (accepted r (counted h v) h) ++ rest
  after zero = counts_in_words h rest v.count v.values_seen v.internal_timestamp (length v.initial_timestamps)
  after (suc r) = refl

-- ---- the calls that change a preprocessor

-- by a role that has the rights
module _ (table : List ℕ) (role : ℕ) (h : Preprocessor) (held : HeadFits h) (good : outside_row h ≡ 0) (rest : List ℕ) where
  opens : (rs : List Right) → granted table role rs ≡ true → 0 ≡ open_row (granted table role rs) (words_of h ++ rest)
  unfolding open_row
  opens rs e = rw e (sym (in_use h held good rest))

  pub drain_in_words : granted table role (LEARN ∷ []) ≡ true → (l : Lent)
      → drain_at table role (words_of h ++ rest) l ≡ called (drain_of h l).row (words_of (drain_of h l).head ++ rest) (drain_of h l).lent
  unfolding drain_at drain_of head_after
  drain_in_words g l =
      let w = words_of h ++ rest in
      sym (answered (granted table role (LEARN ∷ [])) w (drain_told w (drain_of (head_of w) l)) (λ (r : ℕ). called r w l) 0 (opens (LEARN ∷ []) g) refl)
      ∙ ap (λ (x : Preprocessor). drain_told w (drain_of x l)) (head_back h held rest)
      ∙ ap (λ (u : List ℕ). called (row_of h l drain) u (lent_after h l drain)) (after h rest (change (view h l) drain) (row_of h l drain))

  pub point_in_words : granted table role (SEE ∷ LEARN ∷ []) ≡ true → (l : Lent) (x : List Float) (t g : ℕ) (out : List Float)
      → point_at table role (words_of h ++ rest) l x t g out
      ≡ point_called (point_after h l x t out).row (words_of (point_after h l x t out).head ++ rest) (point_after h l x t out).lent
      (accepted (point_after h l x t out).row (flag (point_after h l x t out).given) g) (point_after h l x t out).out
  unfolding point_at point_after head_after
  point_in_words may l x t g out =
      let w = words_of h ++ rest in
      let c = shingled_point x t out in
      let o = point_after h l x t out in
      sym (answered (granted table role (SEE ∷ LEARN ∷ [])) w (point_told w g (point_after (head_of w) l x t out)) (λ (r : ℕ). point_called r w l g out) 0 (opens (SEE ∷ LEARN ∷ []) may) refl)
      ∙ ap (λ (y : Preprocessor). point_told w g (point_after y l x t out)) (head_back h held rest)
      ∙ ap (λ (u : List ℕ). point_called o.row u o.lent (accepted o.row (flag o.given) g) o.out)
      (after h rest (change (view h l) c) (row_of h l c))

  pub learn_in_words : granted table role (LEARN ∷ []) ≡ true → (l : Lent) (a : AnomalyOut) (c : Learn)
      → learn_at table role (words_of h ++ rest) l a c
      ≡ learn_called (learn_after h l c).row (words_of (learn_after h l c).head ++ rest) (learn_after h l c).lent (anomaly_told a (learn_after h l c))
      (learn_after h l c).deviations_out (learn_after h l c).past_out (learn_after h l c).expected_out
  unfolding learn_at learn_after head_after
  learn_in_words g l a c =
      let w = words_of h ++ rest in
      let q = post_process c in
      let o = learn_after h l c in
      sym (answered (granted table role (LEARN ∷ [])) w (learn_told w a (learn_after (head_of w) l c)) (λ (r : ℕ). learn_called r w l a c.deviations_out c.past_out c.expected_out) 0
      (opens (LEARN ∷ []) g) refl)
      ∙ ap (λ (y : Preprocessor). learn_told w a (learn_after y l c)) (head_back h held rest)
      ∙ ap (λ (u : List ℕ). learn_called o.row u o.lent (anomaly_told a o) o.deviations_out o.past_out o.expected_out)
      (after h rest (change (view h l) q) (row_of h l q))
