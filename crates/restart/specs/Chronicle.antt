-- The history once more, read from its oldest entry on, as document 01 tells it; proofs/SameHistory.antt shows that both are one.
-- `before` holds the entries before the one that is looked at, oldest first.
use Rattle.std.specs.Prelude.{ℕ, ◌+◌, ◌*◌, Bool, true, false, cond, List, [], ◌∷◌, ◌++◌, ltb, length, replicate, Float}
use Rattle.trcf.specs.Lists.{last_n, last_or}
use Rattle.trcf.specs.Transformer.{zero32}
use Rattle.trcf.specs.Settings.{Settings, dimension}
use Rattle.trcf.specs.Preprocessor.{Reading, reading, State}
use Rattle.restart.specs.Statistics.{Fed, fed_after, statistics_from}
use Rattle.restart.specs.History.{Entry, initial_entry, learned_entry, drained_entry, values, timestamps, first_and_all, fed_pairs, transforms}

abbrev pub Ws : List Entry → List Reading
Ws [] = []
Ws (initial_entry x t ∷ es) = reading x t ∷ Ws es
Ws (learned_entry x t y ∷ es) = Ws es
Ws (drained_entry ∷ es) = Ws es

abbrev pub Ls : List Entry → List Reading
Ls [] = []
Ls (initial_entry x t ∷ es) = Ls es
Ls (learned_entry x t y ∷ es) = reading x t ∷ Ls es
Ls (drained_entry ∷ es) = Ls es

-- F stands
abbrev pub stands : List Entry → Bool
stands [] = false
stands (initial_entry x t ∷ es) = stands es
stands (learned_entry x t y ∷ es) = stands es
stands (drained_entry ∷ es) = true

-- "if F, the first W, then all W's; then L's"
abbrev pub behind_zeros : List Entry → List Reading
behind_zeros es = cond (stands es) (first_and_all (Ws es)) [] ++ Ls es

abbrev pub inputs : Settings → List Entry → List Float
inputs s es = last_n (s.d * s.k) (replicate (s.d * s.k) zero32 ++ values (behind_zeros es))

abbrev pub chronicle_times : Settings → List Entry → List ℕ
chronicle_times s es = last_n s.k (replicate s.k 0 ++ timestamps (behind_zeros es))

-- what an entry feeds
abbrev pub fed_by : Settings → List Entry → Entry → List Fed
fed_by s before (initial_entry x t) = []
fed_by s before (learned_entry x t y) =
    cond (ltb (length (Ws before) + length (Ls before)) s.stop)
    (fed_after (reading (last_n s.d (inputs s before)) (last_or 0 (chronicle_times s before))) (reading x t) ∷ []) []
fed_by s before drained_entry = fed_pairs (Ws before)

abbrev pub fed_from : Settings → List Entry → List Entry → List Fed
fed_from s before [] = []
fed_from s before (e ∷ es) = fed_by s before e ++ fed_from s (before ++ (e ∷ [])) es

abbrev pub statistics_after : Settings → List Entry → List Float
statistics_after s es = statistics_from s (fed_from s [] es)

-- what an entry makes of the points
abbrev pub points_by : Settings → List Entry → List Float → Entry → List Float
points_by s before p (initial_entry x t) = p
points_by s before p (learned_entry x t y) = y
points_by s before p drained_entry =
    last_n (dimension s)
    (p ++ transforms s (statistics_after s (before ++ (drained_entry ∷ []))) (length (Ws before) + length (Ls before)) (fed_pairs (Ws before)))

abbrev pub points_from : Settings → List Entry → List Float → List Entry → List Float
points_from s before p [] = p
points_from s before p (e ∷ es) = points_from s (before ++ (e ∷ [])) (points_by s before p e) es

unfoldable pub chronicle : Settings → List Entry → State
chronicle s es =
    record {
      settings = s;
      values_seen = length (Ws es) + length (Ls es);
      internal_timestamp = length (Ls es) + cond (stands es) (length (Ws es)) 0;
      count = length (fed_from s [] es);
      statistics = statistics_after s es;
      last_shingled_input = inputs s es;
      last_shingled_point = points_from s [] (replicate (dimension s) zero32) es;
      previous_timestamps = chronicle_times s es;
      initial_values = values (cond (stands es) [] (Ws es));
      initial_timestamps = timestamps (cond (stands es) [] (Ws es));
    }
