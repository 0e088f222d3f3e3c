-- The lines of a text one after the other, run by run, as the code reads them; proofs/ReadRuns ties them to `read`.
use Rattle.std.specs.Prelude.{Result, Ok, Err, ℕ, zero, suc, ◌+◌, ◌*◌, ◌≤◌, ◌<◌, not, ◌&&◌, cond, ◌≡◌, List, [], ◌∷◌, ◌++◌, drop, Float}
use Rattle.std.proofs.Math.Option.{Option, none, some}
use Rattle.std.specs.Float.{binary32, binary64}
use Rattle.trcf.specs.Lists.{null}
use Rattle.trcf.specs.Settings.{Settings, dimension, waiting}
use Rattle.trcf.specs.Preprocessor.{State, Reading, statistics_length}
use Rattle.trcf.specs.View.{Lent, settings_of, head_from, counting, written_over}
use Rattle.trcf.specs.declared.head.Preprocessor.{Preprocessor}
use Rattle.snapshot.specs.declared.head.BadLine.{BadLine}
use Rattle.snapshot.specs.declared.head.Header.{Header}
use Rattle.snapshot.specs.Read.{as_float, Counts, Read, taken, bad, may_stand, state_of, with_lists}
use Rattle.snapshot.specs.Steps.Judge.{list_line, Codes, chn_or, chn_by, set_by, wgt_by, cnt_by, tim_by, buf_by}

-- ---- some lines: a value and what is left of the text, or which of them is the first bad one, from 1

pub data Ran (A : Type 0) : Type 0 where
  ran : A → List ℕ → Ran A
  broke : ℕ → Ran A

-- one line
abbrev pub one_line : {A : Type 0} → Option (A × List ℕ) → Ran A
one_line none = broke 1
one_line (some r) = ran r.0 r.1

-- lines after n others
abbrev pub after_lines : {A : Type 0} → ℕ → Ran A → Ran A
after_lines n (ran a z) = ran a z
after_lines n (broke m) = broke (n + m)

-- n lines, then others
abbrev pub then_lines : {A B : Type 0} → ℕ → Ran A → (A → List ℕ → Ran B) → Ran B
then_lines n (ran a z) g = after_lines n (g a z)
then_lines n (broke m) g = broke m

-- as the code answers it: the place after the lines, or the bad one
abbrev pub ran_by : {A : Type 0} → Result ℕ BadLine → A → List ℕ → Ran A
ran_by (Ok at) a t = ran a (drop at t)
ran_by (Err e) a t = broke e.line

-- what is judged and not kept
abbrev pub unkept : {A : Type 0} → Ran A → Ran (Unit {0})
unkept (ran a z) = ran tt z
unkept (broke m) = broke m

-- ---- lines of one kind, each read with what the one before it says

abbrev pub front : {A : Type 0} → A → Ran (List A) → Ran (List A)
front a (ran l z) = ran (a ∷ l) z
front a (broke m) = broke m

module _ {A : Type 0} (p : ℕ → List ℕ → Option (A × List ℕ)) (f : A → ℕ) where
  abbrev pub many : ℕ → ℕ → List ℕ → Ran (List A)
  many q zero l = ran [] l
  many q (suc n) l = then_lines 1 (one_line (p q l)) (λ a z. front a (many (f a) n z))

-- the `dev` lines, three numbers each
abbrev pub dev_fields : ℕ → List ℕ → Option (List Float × List ℕ)
dev_fields q l = list_line (as_float binary64) 100 101 118 3 l

abbrev pub no_carry : List Float → ℕ
no_carry v = 0

abbrev pub flat : List (List Float) → List Float
flat [] = []
flat (v ∷ l) = v ++ flat l

abbrev pub map_ran : {A B : Type 0} → (A → B) → Ran A → Ran B
map_ran f (ran a z) = ran (f a) z
map_ran f (broke m) = broke m

unfoldable pub devs : ℕ → List ℕ → Ran (List Float)
devs n l = map_ran flat (many dev_fields no_carry 0 n l)

-- the `buf` lines: "times not falling"
abbrev pub time_of : Reading → ℕ
time_of r = r.time

abbrev pub reading_values : List Reading → List Float
reading_values [] = []
reading_values (r ∷ l) = r.value ++ reading_values l

abbrev pub reading_times : List Reading → List ℕ
reading_times [] = []
reading_times (r ∷ l) = r.time ∷ reading_times l

pub record Initial : Type 0 where
  pub values : List Float
  pub times : List ℕ

abbrev pub initial_lists : List Float → List ℕ → Initial
initial_lists v ts = record { values = v; times = ts }

abbrev pub initial_of : List Reading → Initial
initial_of l = initial_lists (reading_values l) (reading_times l)

unfoldable pub bufs : ℕ → ℕ → List ℕ → Ran Initial
bufs d n l = map_ran initial_of (many (buf_by d) time_of 0 n l)

-- ---- the lines from `dev` to `tim`

pub record Parts : Type 0 where
  pub statistics : List Float
  pub input : List Float
  pub point : List Float
  pub times : List ℕ

abbrev pub parts : List Float → List Float → List Float → List ℕ → Parts
parts st x y ts = record { statistics = st; input = x; point = y; times = ts }

unfoldable pub parts_by : ℕ → ℕ → ℕ → ℕ → ℕ → List ℕ → Ran Parts
parts_by internal n x y k l =
    then_lines n (devs n l)
    (λ st l₁.
    then_lines 1 (one_line (list_line (as_float binary32) 105 110 112 x l₁))
    (λ v l₂.
    then_lines 1 (one_line (list_line (as_float binary32) 112 110 116 y l₂))
    (λ u l₃. then_lines 1 (one_line (tim_by internal k l₃)) (λ ts l₄. ran (parts st v u ts) l₄))))

-- ---- `set`, `wgt`, `chn` where it stands, and `cnt`

pub record Head : Type 0 where
  pub settings : Settings
  pub counts : Counts
  pub extra : ℕ  -- how many lines hold codes

abbrev pub head_read : Settings → Counts → ℕ → Head
head_read s c n = record { settings = s; counts = c; extra = n }

abbrev pub third_by : Settings → List Float → Codes → Ran Head
third_by s v q =
    after_lines q.extra (then_lines 1 (one_line (cnt_by s.method s.start q.rest)) (λ c z. ran (head_read (with_lists s v q.codes) c q.extra) z))

unfoldable pub head_by : List ℕ → Ran Head
head_by l =
    then_lines 1 (one_line (set_by l))
    (λ s l₁.
    then_lines 1 (one_line (wgt_by s.method s.d l₁))
    (λ v l₂. third_by s v (chn_or s.d (chn_by s.d l₂) l₂)))

-- with no initial values yet
abbrev pub head_with_counts : Head → Preprocessor
head_with_counts h = counting (head_from h.settings) h.counts.count h.counts.values_seen h.counts.internal_timestamp 0

-- with how many lines hold codes
abbrev pub headed_of : Head → Preprocessor × ℕ
headed_of h = (head_with_counts h, h.extra)

-- as the code answers it
abbrev pub header_told : Result Header BadLine → List ℕ → Ran (Preprocessor × ℕ)
header_told (Ok h) t = ran (h.head, h.extra) (drop h.at t)
header_told (Err e) t = broke e.line

-- within the limits of rows 4 and 8
pub record Few (d k start : ℕ) : Type 0 where
  pub d_few : d ≤ 16
  pub k_few : k ≤ 64
  pub start_few : start < 2000

abbrev pub HeadFew : Preprocessor → Type 0
HeadFew h = Few h.transformer.input_length h.shingle_size h.start_normalization

-- the same with arrays of which the first d count
abbrev pub head_with : Settings → List Float → List ℕ → Counts → Preprocessor
head_with s a b c =
    record {
      transformer = record {
        transform_method = s.method;
        input_length = s.d;
        transform_decay = s.decay;
        weights = a;
        count = c.count;
      };
      forest_mode = s.mode;
      shingle_size = s.k;
      start_normalization = s.start;
      stop_normalization = s.stop;
      weight_time = s.weight_time;
      values_seen = c.values_seen;
      internal_timestamp = c.internal_timestamp;
      initial_len = 0;
      codes = b;
    }

abbrev pub counts_in : Preprocessor → Counts
counts_in h =
    record { values_seen = h.values_seen; internal_timestamp = h.internal_timestamp; count = h.transformer.count }

-- ---- the whole text

-- "While waiting, `buf` lines = values_seen …; later none, or start lines"
unfoldable pub expected : Settings → Counts → List ℕ → ℕ
expected s c l = cond (waiting s c.values_seen) c.values_seen (cond (may_stand s c && not (null l)) s.start 0)

-- nothing may follow
abbrev pub ending : {A : Type 0} → A → List ℕ → Ran A
ending a [] = ran a []
ending a (x ∷ l) = broke 1

pub record Body : Type 0 where
  pub parts : Parts
  pub initial : Initial

abbrev pub body : Parts → Initial → Body
body p i = record { parts = p; initial = i }

unfoldable pub parts_of : Settings → Counts → List ℕ → Ran Parts
parts_of s c l = parts_by c.internal_timestamp (5 * s.d + 5) (s.d * s.k) (dimension s) s.k l

unfoldable pub body_by : Settings → Counts → List ℕ → Ran Body
body_by s c l =
    then_lines (5 * s.d + 8) (parts_of s c l)
    (λ p l₁. then_lines (expected s c l₁) (bufs s.d (expected s c l₁) l₁) (λ i l₂. ending (body p i) l₂))

abbrev pub state_from : Settings → Counts → Body → State
state_from s c b =
    state_of s c b.parts.statistics b.parts.input b.parts.point b.parts.times b.initial.values b.initial.times

abbrev pub Good : {A : Type 0} → Ran A → Type 0
Good (ran a z) = Unit {0}
Good (broke m) = ⊥

-- the same lines where n `buf` lines are known to stand and nothing after them
unfoldable pub filled_by : Settings → Counts → ℕ → List ℕ → Ran Body
filled_by s c n l = then_lines (5 * s.d + 8) (parts_of s c l) (λ p l₁. then_lines n (bufs s.d n l₁) (λ i l₂. ran (body p i) l₂))

-- what lent lists hold afterwards, where the lines are good
abbrev pub Fills : Ran Body → Body → Type 0
Fills r held = (b : Body) (z : List ℕ) → ran b z ≡ r → held ≡ b

-- the same of lists that may be longer
abbrev pub FillsOver : Settings → Counts → Ran Body → Lent → Lent → Type 0
FillsOver s c r old new = (b : Body) (z : List ℕ) → ran b z ≡ r → new ≡ written_over (state_from s c b) old

-- what is in use fits the lent lists
pub record Room (h : Preprocessor) (n statistics input point times values initial : ℕ) : Type 0 where
  pub d_few : h.transformer.input_length ≤ 16
  pub k_few : h.shingle_size ≤ 64
  pub n_few : n ≤ 2000
  pub in_statistics : statistics_length (settings_of h) ≤ statistics
  pub in_input : h.transformer.input_length * h.shingle_size ≤ input
  pub in_point : dimension (settings_of h) ≤ point
  pub in_times : h.shingle_size ≤ times
  pub in_values : n * h.transformer.input_length ≤ values
  pub in_initial : n ≤ initial

unfoldable pub read_by : List ℕ → Ran State
read_by t = then_lines 3 (head_by t) (λ h l. after_lines h.extra (map_ran (state_from h.settings h.counts) (body_by h.settings h.counts l)))

abbrev pub as_read : Ran State → Read
as_read (ran w z) = taken w
as_read (broke m) = bad m
