-- The reader of a snapshot, as a definition: document 01, 'Trace text', and row 19 with its line. A line is read by guessing what it was written from,
-- writing that again and comparing byte for byte, so nothing of a guess is trusted: leading zeros, upper case, CR, other not-a-number patterns,
-- a field too many or too few and a missing LF all fail in the one comparison.
use Rattle.std.specs.Prelude.{ℕ, zero, suc, ◌+◌, ◌-◌, ◌*◌, ◌<◌, ◌≡◌, Bool, true, false, not, ◌&&◌, ◌||◌, cond, List, [], ◌∷◌, ◌++◌, map, ◌⊎◌, length, take, drop, replicate, leb, ltb, eqb, Float}
use Rattle.std.proofs.Math.Option.{Option, none, some}
use Rattle.std.proofs.Common.{inl, inr}
use Rattle.std.specs.Float.{Format, binary32, binary64}
use Rattle.std.specs.Float.Ieee.{of_bits, fits}
use Rattle.common.specs.Deviation.{count_limit, outside_unit}
use Rattle.trcf.specs.declared.types.TransformMethod.{TransformMethod}
use Rattle.trcf.specs.declared.types.TransformMethod.TheVariants.{NONE, WEIGHTED, DIFFERENCE, SUBTRACT_MA, NORMALIZE, NORMALIZE_DIFFERENCE}
use Rattle.trcf.specs.declared.types.ForestMode.{ForestMode}
use Rattle.trcf.specs.declared.types.ForestMode.TheVariants.{STANDARD}
use Rattle.trcf.specs.Types.{is_none, normalizes, mode_of_letter}
use Rattle.trcf.specs.Settings.{Settings, input_limit, shingle_limit, start_bound, dimension, waiting, imputes, all_one, whole_max, code_max}
use Rattle.trcf.specs.Calls.{finite, seen_limit}
use Rattle.trcf.specs.Preprocessor.{State, Reading}
use Rattle.snapshot.specs.Form.{Form}
use Rattle.snapshot.specs.Text.{whole, float, Line, tabbed_fields, wgt, inp, pnt, chn, set_line, singles, chn_line, cnt_line, dev_line, tim_line, buf_line, TextOf}

-- ---- lines, and the cells of a line

-- b in front of the first list
abbrev pub push : ℕ → List (List ℕ) → List (List ℕ)
push b [] = (b ∷ []) ∷ []
push b (l ∷ ls) = (b ∷ l) ∷ ls

-- every line with its LF; bytes after the last LF are a line without one
abbrev pub lines : List ℕ → List (List ℕ)
lines [] = []
lines (b ∷ t) = let r = lines t in cond (eqb b 10) ((10 ∷ []) ∷ r) (push b r)

abbrev pub join : List (List ℕ) → List ℕ
join [] = []
join (l ∷ ls) = l ++ join ls

-- the bytes of a line
abbrev pub bytes_of_line : Line → List ℕ
bytes_of_line l = l.name ++ tabbed_fields l.fields

-- a line cut at its tabs and its LF
abbrev pub cells : List ℕ → List (List ℕ)
cells [] = []
cells (b ∷ l) = let r = cells l in cond (leb b 10) ([] ∷ r) (push b r)

abbrev pub nth_field : ℕ → List (List ℕ) → List ℕ
nth_field n [] = []
nth_field zero (x ∷ xs) = x
nth_field (suc n) (x ∷ xs) = nth_field n xs

-- ---- what a cell may have been written from

abbrev pub whole_from : ℕ → List ℕ → ℕ
whole_from a [] = a
whole_from a (c ∷ cs) = whole_from (10 * a + (c - 48)) cs

abbrev pub undigit : ℕ → ℕ
undigit c = cond (ltb c 58) (c - 48) (c - 87)

abbrev pub hex_from : ℕ → List ℕ → ℕ
hex_from a [] = a
hex_from a (c ∷ cs) = hex_from (16 * a + undigit c) cs

abbrev pub mode_from : List ℕ → ForestMode
mode_from [] = STANDARD
mode_from (c ∷ cs) = mode_of_letter c

abbrev pub method_from : ℕ → TransformMethod
method_from zero = NONE
method_from (suc zero) = WEIGHTED
method_from (suc (suc zero)) = DIFFERENCE
method_from (suc (suc (suc zero))) = SUBTRACT_MA
method_from (suc (suc (suc (suc zero)))) = NORMALIZE
method_from (suc (suc (suc (suc (suc n))))) = NORMALIZE_DIFFERENCE

unfoldable pub float_from : Format → List ℕ → Float
float_from f c = of_bits f (hex_from 0 c)

-- ---- tests

abbrev pub every : List Bool → Bool
every [] = true
every (b ∷ bs) = b && every bs

abbrev pub same : List ℕ → List ℕ → Bool
same [] [] = true
same [] (y ∷ ys) = false
same (x ∷ xs) [] = false
same (x ∷ xs) (y ∷ ys) = eqb x y && same xs ys

abbrev pub all_fit : Format → List Float → Bool
all_fit f [] = true
all_fit f (x ∷ xs) = fits f x && all_fit f xs

abbrev pub all_whole : List ℕ → Bool
all_whole [] = true
all_whole (t ∷ ts) = leb t whole_max && all_whole ts

-- "none falling", and none below p
abbrev pub climbs : ℕ → List ℕ → Bool
climbs p [] = true
climbs p (t ∷ ts) = leb p t && climbs t ts

abbrev pub all_codes : List ℕ → Bool
all_codes [] = true
all_codes (c ∷ cs) = leb c code_max && all_codes cs

abbrev pub zeros : List ℕ → Bool
zeros [] = true
zeros (t ∷ ts) = eqb t 0 && zeros ts

-- ---- a kind of line: how a value is written, a guess from the cells, and the tests of a value

pub record LineKind (A : Type 0) : Type 0 where
  pub write : A → Line
  pub guess : List (List ℕ) → A
  pub tests : A → List Bool

-- a line is taken for the value that is guessed, where that value is written as this line and passes the tests
unfoldable pub judge : {A : Type 0} → LineKind A → List ℕ → Option A
judge k b = let a = k.guess (cells b) in cond (every (same (bytes_of_line (k.write a)) b ∷ k.tests a)) (some a) none

-- ---- fields: "a single, a double, a whole number or bad", by the same rule

unfoldable pub as_whole : List ℕ → Option ℕ
as_whole c = let n = whole_from 0 c in cond (same (whole n) c && leb n whole_max) (some n) none

unfoldable pub as_float : Format → List ℕ → Option Float
as_float f c = let x = float_from f c in cond (same (float f x) c) (some x) none

-- ---- the kinds

-- `set`: rows 1 to 4 and 6 to 8, and numbers that the program can hold. The weights are not in this line.
abbrev pub set_kind : LineKind Settings
set_kind =
    record {
      write = set_line;
      guess = λ c.
          record {
            mode = mode_from (nth_field 1 c);
            method = method_from (whole_from 0 (nth_field 2 c));
            d = whole_from 0 (nth_field 3 c);
            k = whole_from 0 (nth_field 4 c);
            start = whole_from 0 (nth_field 5 c);
            stop = whole_from 0 (nth_field 6 c);
            decay = float_from binary64 (nth_field 7 c);
            weight_time = float_from binary32 (nth_field 8 c);
            weights = [];
            codes = [];
          };
      tests = λ s.
          not (imputes s.mode)
          ∷ not (eqb s.d 0)
          ∷ not (eqb s.k 0)
          ∷ not (ltb input_limit s.d || ltb shingle_limit s.k)
          ∷ not (outside_unit s.decay)
          ∷ not (ltb s.stop s.start)
          ∷ not (leb start_bound s.start)
          ∷ leb s.stop whole_max
          ∷ fits binary64 s.decay
          ∷ fits binary32 s.weight_time
          ∷ [];
    }

-- n singles after a name
abbrev pub singles_kind : List ℕ → ℕ → (List Float → List Bool) → LineKind (List Float)
singles_kind name n more =
    record {
      write = singles name;
      guess = λ c. map (float_from binary32) (drop 1 c);
      tests = λ v. eqb (length v) n ∷ all_fit binary32 v ∷ more v;
    }

-- `wgt`: rows 5 and 9, "weights against NONE: line 2"
abbrev pub wgt_kind : Settings → LineKind (List Float)
wgt_kind s = singles_kind wgt s.d (λ v. not (is_none s.method && not (all_one v)) ∷ [])

abbrev pub inp_kind : Settings → LineKind (List Float)
inp_kind s = singles_kind inp (s.d * s.k) (λ v. [])

abbrev pub pnt_kind : Settings → LineKind (List Float)
pnt_kind s = singles_kind pnt (dimension s) (λ v. [])

pub record Counts : Type 0 where
  pub values_seen : ℕ
  pub internal_timestamp : ℕ
  pub count : ℕ

-- `cnt`: "While waiting … internal is 0"
abbrev pub cnt_kind : Settings → LineKind Counts
cnt_kind s =
    record {
      write = λ c. cnt_line c.values_seen c.internal_timestamp c.count;
      guess = λ c. record { values_seen = whole_from 0 (nth_field 1 c); internal_timestamp = whole_from 0 (nth_field 2 c); count = whole_from 0 (nth_field 3 c) };
      tests = λ c.
          leb c.values_seen seen_limit
          ∷ leb c.internal_timestamp seen_limit
          ∷ leb c.count count_limit
          ∷ (not (waiting s c.values_seen) || eqb c.internal_timestamp 0)
          ∷ [];
    }

-- `chn`: d codes
abbrev pub chn_kind : Settings → LineKind (List ℕ)
chn_kind s =
    record {
      write = chn_line;
      guess = λ c. map (whole_from 0) (drop 1 c);
      tests = λ cs. eqb (length cs) s.d ∷ all_codes cs ∷ [];
    }

-- a line of the one kind or of the other, by the name that it bears
abbrev pub write_either : {A B : Type 0} → LineKind A → LineKind B → A ⊎ B → Line
write_either p q (inl a) = p.write a
write_either p q (inr b) = q.write b

abbrev pub tests_either : {A B : Type 0} → LineKind A → LineKind B → A ⊎ B → List Bool
tests_either p q (inl a) = p.tests a
tests_either p q (inr b) = q.tests b

abbrev pub either_kind : {A B : Type 0} → List ℕ → LineKind A → LineKind B → LineKind (A ⊎ B)
either_kind n p q =
    record {
      write = write_either p q;
      guess = λ c. cond (same (nth_field 0 c) n) (inl (p.guess c)) (inr (q.guess c));
      tests = tests_either p q;
    }

pub record Three : Type 0 where
  pub weight : Float
  pub sum : Float
  pub squares : Float

abbrev pub dev_kind : LineKind Three
dev_kind =
    record {
      write = λ a. dev_line a.weight a.sum a.squares;
      guess = λ c. record { weight = float_from binary64 (nth_field 1 c); sum = float_from binary64 (nth_field 2 c); squares = float_from binary64 (nth_field 3 c) };
      tests = λ a. fits binary64 a.weight ∷ fits binary64 a.sum ∷ fits binary64 a.squares ∷ [];
    }

-- `tim`: "k times, none falling"; "With internal 0 all `tim` are 0."
abbrev pub tim_kind : Settings → Counts → LineKind (List ℕ)
tim_kind s c =
    record {
      write = tim_line;
      guess = λ c. map (whole_from 0) (drop 1 c);
      tests = λ ts. eqb (length ts) s.k ∷ all_whole ts ∷ climbs 0 ts ∷ (not (eqb c.internal_timestamp 0) || zeros ts) ∷ [];
    }

-- `buf`: d finite numbers, the time not below p
abbrev pub buf_kind : ℕ → ℕ → LineKind Reading
buf_kind d p =
    record {
      write = λ r. buf_line r.time r.value;
      guess = λ c. record { value = map (float_from binary32) (drop 2 c); time = whole_from 0 (nth_field 1 c) };
      tests = λ r.
          leb p r.time ∷ leb r.time whole_max ∷ eqb (length r.value) d ∷ all_fit binary32 r.value ∷ finite r.value ∷ [];
    }

-- ---- a plan: which line may come next, by what was read; where the text may end, the state that it is of

pub data Plan : Type 1 where
  plan_end : State → Plan
  plan_line : Option State → (A : Type 0) → LineKind A → (A → Plan) → Plan

-- n `buf` lines, none below p; e where the text may end before them
abbrev pub bufs_plan : Option State → ℕ → ℕ → ℕ → (List Float → List ℕ → State) → Plan
bufs_plan e d p zero k = plan_end (k [] [])
bufs_plan e d p (suc n) k = plan_line e Reading (buf_kind d p) (λ r. bufs_plan none d r.time n (λ v ts. k (r.value ++ v) (r.time ∷ ts)))

-- "later none, or start lines under methods 4 and 5 (with such lines, internal is 0 if values_seen = start)"
unfoldable pub may_stand : Settings → Counts → Bool
may_stand s c = normalizes s.method && (not (eqb c.values_seen s.start) || eqb c.internal_timestamp 0)

-- by whether it waits, and whether lines may stand later; "While waiting, `buf` lines = values_seen"
abbrev pub buf_plan : Bool → Bool → Settings → Counts → (List Float → List ℕ → State) → Plan
buf_plan true m s c k = bufs_plan none s.d 0 c.values_seen k
buf_plan false true s c k = bufs_plan (some (k [] [])) s.d 0 s.start k
buf_plan false false s c k = plan_end (k [] [])

abbrev pub devs_plan : ℕ → (List Float → Plan) → Plan
devs_plan zero k = k []
devs_plan (suc n) k = plan_line none Three dev_kind (λ a. devs_plan n (λ st. k (a.weight ∷ a.sum ∷ a.squares ∷ st)))

abbrev pub state_of : Settings → Counts → List Float → List Float → List Float → List ℕ → List Float → List ℕ → State
state_of s c st x y ts v us =
    record {
      settings = s;
      values_seen = c.values_seen;
      internal_timestamp = c.internal_timestamp;
      count = c.count;
      statistics = st;
      last_shingled_input = x;
      last_shingled_point = y;
      previous_timestamps = ts;
      initial_values = v;
      initial_timestamps = us;
    }

-- the settings of line 1 with their weights and codes
abbrev pub with_lists : Settings → List Float → List ℕ → Settings
with_lists s v cs =
    record {
      mode = s.mode;
      method = s.method;
      d = s.d;
      k = s.k;
      start = s.start;
      stop = s.stop;
      decay = s.decay;
      weight_time = s.weight_time;
      weights = v;
      codes = cs;
    }

-- "In order: `set` …; `wgt` …; `chn` …, or not; `cnt` …; `dev` …: 5d lines … then time's five; `inp` …; `pnt` …; `tim` …; `buf` …"
abbrev pub after_tim : Settings → Counts → List Float → List Float → List Float → List ℕ → Plan
after_tim s c st x y ts = buf_plan (waiting s c.values_seen) (may_stand s c) s c (state_of s c st x y ts)

abbrev pub after_pnt : Settings → Counts → List Float → List Float → List Float → Plan
after_pnt s c st x y = plan_line none (List ℕ) (tim_kind s c) (after_tim s c st x y)

abbrev pub after_inp : Settings → Counts → List Float → List Float → Plan
after_inp s c st x = plan_line none (List Float) (pnt_kind s) (after_pnt s c st x)

abbrev pub after_dev : Settings → Counts → List Float → Plan
after_dev s c st = plan_line none (List Float) (inp_kind s) (after_inp s c st)

abbrev pub after_cnt : Settings → Counts → Plan
after_cnt s c = devs_plan (5 * s.d + 5) (after_dev s c)

abbrev pub after_chn : Settings → Plan
after_chn s = plan_line none Counts (cnt_kind s) (after_cnt s)

-- "a text lacking it is read as all zeros"
abbrev pub bare : Settings → List Float → Settings
bare s v = with_lists s v (replicate s.d 0)

-- line 3: the codes, or the counts of a text that lacks them
abbrev pub third_kind : Settings → List Float → LineKind (List ℕ ⊎ Counts)
third_kind s v = either_kind chn (chn_kind s) (cnt_kind (bare s v))

abbrev pub after_third : Settings → List Float → List ℕ ⊎ Counts → Plan
after_third s v (inl cs) = after_chn (with_lists s v cs)
after_third s v (inr c) = after_cnt (bare s v) c

abbrev pub after_wgt : Settings → List Float → Plan
after_wgt s v = plan_line none (List ℕ ⊎ Counts) (third_kind s v) (after_third s v)

abbrev pub after_set : Settings → Plan
after_set s = plan_line none (List Float) (wgt_kind s) (after_wgt s)

abbrev pub plan : Plan
plan = plan_line none Settings set_kind after_set

-- ---- reading by a plan: the state, or the bad line, from 1

pub data Read : Type 0 where
  taken : State → Read
  bad : ℕ → Read

abbrev pub later : Read → Read
later (taken w) = taken w
later (bad n) = bad (suc n)

-- "a missing line counts as the line after the last"
abbrev pub ended : Option State → Read
ended none = bad 1
ended (some w) = taken w

abbrev pub read_then : {A : Type 0} → Option A → (A → Read) → Read
read_then none g = bad 1
read_then (some a) g = g a

abbrev pub follow : Plan → List (List ℕ) → Read
follow (plan_end w) [] = taken w
follow (plan_end w) (l ∷ ls) = bad 1
follow (plan_line e A c k) [] = ended e
follow (plan_line e A c k) (l ∷ ls) = read_then (judge c l) (λ a. later (follow (k a) ls))

unfoldable pub read : List ℕ → Read
read t = follow plan (lines t)

-- ---- what is put away of a text that was taken up

-- whether line 3 is the codes'
unfoldable pub carries : List ℕ → Bool
carries t = same (nth_field 0 (cells (nth_field 2 (lines t)))) chn

-- the text itself; "a text lacking it … as one exception, is put away with the line": d zeros after line 2
unfoldable pub with_channel_line : ℕ → List ℕ → List ℕ
with_channel_line d t = cond (carries t) t (join (take 2 (lines t) ++ (bytes_of_line (chn_line (replicate d 0)) ∷ drop 2 (lines t))))

-- ---- what the theorems say of it

-- some text of the form agrees with t in its first n lines (all of it, where one of the two has fewer)
abbrev pub Agrees : ℕ → List ℕ → Type 0
Agrees n t = (w : State) × (u : List ℕ) × Form w × TextOf w u × (take n (lines u) ≡ take n (lines t))

-- "The bad line is the first after which no text of this form could begin with what was read"
pub record FirstBad (n : ℕ) (t : List ℕ) : Type 0 where
  pub none_here : Agrees n t → ⊥
  pub one_before : (m : ℕ) → m < n → Agrees m t
