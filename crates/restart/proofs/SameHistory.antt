-- The history read from its oldest entry is the history.
use mathlib.Core.Path.{◌≡◌, refl, sym, ap, ◌∙◌}
use mathlib.Core.Bool.{Bool, true, false, cond}
use mathlib.Core.List.{List, [], ◌∷◌, ◌++◌, append_assoc, append-nil, reverse, reverse-cons}
use lib.ListN.{replicate}
use lib.Ieee.{Float}
use Rattle.restart.specs.Statistics.{Fed}
use Rattle.restart.specs.History.{Entry, initial_entry, learned_entry, drained_entry, initials, learns, is_drained, seen_of, internal_of, buffer_of, shingled, inputs_of, timestamps_of, newest_reading}
use Rattle.restart.specs.History.{fed_of, count_of, statistics_of, points_of, history_state, entries, history_text}
use Rattle.restart.specs.Chronicle.{Ws, Ls, stands, fed_by, fed_from, points_by, points_from, chronicle}
use Rattle.trcf.specs.Transformer.{zero32}
use Rattle.trcf.specs.Settings.{Settings, dimension}
use Rattle.trcf.specs.Calls.{Call}
use Rattle.trcf.specs.Preprocessor.{Reading, reading}
use Rattle.snapshot.specs.Text.{render}

Ws-append : (a b : List Entry) → Ws (a ++ b) ≡ Ws a ++ Ws b
Ws-append [] b = refl
Ws-append (initial_entry x t ∷ a) b = ap (λ (l : List Reading). reading x t ∷ l) (Ws-append a b)
Ws-append (learned_entry x t y ∷ a) b = Ws-append a b
Ws-append (drained_entry ∷ a) b = Ws-append a b

Ls-append : (a b : List Entry) → Ls (a ++ b) ≡ Ls a ++ Ls b
Ls-append [] b = refl
Ls-append (initial_entry x t ∷ a) b = Ls-append a b
Ls-append (learned_entry x t y ∷ a) b = ap (λ (l : List Reading). reading x t ∷ l) (Ls-append a b)
Ls-append (drained_entry ∷ a) b = Ls-append a b

stands_append : (a b : List Entry) → stands (a ++ b) ≡ cond (stands a) true (stands b)
stands_append [] b = refl
stands_append (initial_entry x t ∷ a) b = stands_append a b
stands_append (learned_entry x t y ∷ a) b = stands_append a b
stands_append (drained_entry ∷ a) b = refl

fed_snoc : (s : Settings) (pre es : List Entry) (e : Entry) → fed_from s pre (es ++ (e ∷ [])) ≡ fed_from s pre es ++ fed_by s (pre ++ es) e
fed_snoc s pre [] e = append-nil (fed_by s pre e) ∙ ap (λ (l : List Entry). fed_by s l e) (sym (append-nil pre))
fed_snoc s pre (c ∷ es) e =
    ap (λ (l : List Fed). fed_by s pre c ++ l) (fed_snoc s (pre ++ (c ∷ [])) es e ∙ ap (λ (l : List Entry). fed_from s (pre ++ (c ∷ [])) es ++ fed_by s l e) (append_assoc pre (c ∷ []) es))
    ∙ sym (append_assoc (fed_by s pre c) (fed_from s (pre ++ (c ∷ [])) es) (fed_by s (pre ++ (c ∷ es)) e))

points_snoc : (s : Settings) (pre : List Entry) (p : List Float) (es : List Entry) (e : Entry) → points_from s pre p (es ++ (e ∷ [])) ≡ points_by s (pre ++ es) (points_from s pre p es) e
points_snoc s pre p [] e = ap (λ (l : List Entry). points_by s l p e) (sym (append-nil pre))
points_snoc s pre p (c ∷ es) e =
    points_snoc s (pre ++ (c ∷ [])) (points_by s pre p c) es e ∙ ap (λ (l : List Entry). points_by s l (points_from s (pre ++ (c ∷ [])) (points_by s pre p c) es) e) (append_assoc pre (c ∷ []) es)

same_W : (es : List Entry) → Ws (reverse es) ≡ initials es
same_W [] = refl
same_W (initial_entry x t ∷ es) = ap Ws (reverse-cons (initial_entry x t) es) ∙ Ws-append (reverse es) (initial_entry x t ∷ []) ∙ ap (λ (l : List Reading). l ++ (reading x t ∷ [])) (same_W es)
same_W (learned_entry x t y ∷ es) = ap Ws (reverse-cons (learned_entry x t y) es) ∙ Ws-append (reverse es) (learned_entry x t y ∷ []) ∙ append-nil (Ws (reverse es)) ∙ same_W es
same_W (drained_entry ∷ es) = ap Ws (reverse-cons drained_entry es) ∙ Ws-append (reverse es) (drained_entry ∷ []) ∙ append-nil (Ws (reverse es)) ∙ same_W es

same_L : (es : List Entry) → Ls (reverse es) ≡ learns es
same_L [] = refl
same_L (initial_entry x t ∷ es) = ap Ls (reverse-cons (initial_entry x t) es) ∙ Ls-append (reverse es) (initial_entry x t ∷ []) ∙ append-nil (Ls (reverse es)) ∙ same_L es
same_L (learned_entry x t y ∷ es) = ap Ls (reverse-cons (learned_entry x t y) es) ∙ Ls-append (reverse es) (learned_entry x t y ∷ []) ∙ ap (λ (l : List Reading). l ++ (reading x t ∷ [])) (same_L es)
same_L (drained_entry ∷ es) = ap Ls (reverse-cons drained_entry es) ∙ Ls-append (reverse es) (drained_entry ∷ []) ∙ append-nil (Ls (reverse es)) ∙ same_L es

or_else_lem : (b c : Bool) → c ≡ false → cond b true c ≡ b
or_else_lem true c h = refl
or_else_lem false c h = h

or_true : (b : Bool) → cond b true true ≡ true
or_true true = refl
or_true false = refl

same_F : (es : List Entry) → stands (reverse es) ≡ is_drained es
same_F [] = refl
same_F (initial_entry x t ∷ es) = ap stands (reverse-cons (initial_entry x t) es) ∙ stands_append (reverse es) (initial_entry x t ∷ []) ∙ or_else_lem (stands (reverse es)) false refl ∙ same_F es
same_F (learned_entry x t y ∷ es) = ap stands (reverse-cons (learned_entry x t y) es) ∙ stands_append (reverse es) (learned_entry x t y ∷ []) ∙ or_else_lem (stands (reverse es)) false refl ∙ same_F es
same_F (drained_entry ∷ es) = ap stands (reverse-cons drained_entry es) ∙ stands_append (reverse es) (drained_entry ∷ []) ∙ or_true (stands (reverse es))

same_fed_by : (s : Settings) (es : List Entry) (e : Entry) → fed_of s es ++ fed_by s (reverse es) e ≡ fed_of s (e ∷ es)
unfolding seen_of newest_reading inputs_of timestamps_of shingled
same_fed_by s es (initial_entry x t) = append-nil (fed_of s es)
same_fed_by s es (learned_entry x t y) = rw (same_W es, same_L es, same_F es)
same_fed_by s es drained_entry = rw (same_W es)

same_fed : (s : Settings) (es : List Entry) → fed_from s [] (reverse es) ≡ fed_of s es
same_fed s [] = refl
same_fed s (e ∷ es) = ap (fed_from s []) (reverse-cons e es) ∙ fed_snoc s [] (reverse es) e ∙ ap (λ (l : List Fed). l ++ fed_by s (reverse es) e) (same_fed s es) ∙ same_fed_by s es e

same_points_by : (s : Settings) (es : List Entry) (e : Entry) → points_by s (reverse es) (points_of s es) e ≡ points_of s (e ∷ es)
unfolding seen_of statistics_of
same_points_by s es (initial_entry x t) = refl
same_points_by s es (learned_entry x t y) = refl
same_points_by s es drained_entry = rw (← (reverse-cons drained_entry es), same_fed s (drained_entry ∷ es), same_W es, same_L es)

same_points : (s : Settings) (es : List Entry) → points_from s [] (replicate (dimension s) zero32) (reverse es) ≡ points_of s es
same_points s [] = refl
same_points s (e ∷ es) =
    ap (points_from s [] (replicate (dimension s) zero32)) (reverse-cons e es) ∙ points_snoc s [] (replicate (dimension s) zero32) (reverse es) e
    ∙ ap (λ (p : List Float). points_by s (reverse es) p e) (same_points s es) ∙ same_points_by s es e

pub same_history : (s : Settings) (es : List Entry) → chronicle s (reverse es) ≡ history_state s es
unfolding chronicle history_state seen_of internal_of count_of statistics_of inputs_of timestamps_of shingled buffer_of
same_history s es = rw (same_W es, same_L es, same_F es, same_fed s es, same_points s es)

-- so the text may be read off either
pub chronicle_text : (s : Settings) (cs : List Call) → history_text s cs ≡ render (chronicle s (reverse (entries s cs)))
unfolding history_text
chronicle_text s cs = ap render (sym (same_history s (entries s cs)))
