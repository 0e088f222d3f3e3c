-- A line as the code reads it: piece by piece from a place of the text on, and none where a piece is bad.
use Rattle.std.specs.Prelude.{Option as Answer, Some, None, ℕ, zero, suc, ◌+◌, ◌-◌, Bool, not, ◌&&◌, ◌||◌, cond, ◌≡◌, List, [], ◌∷◌, ◌++◌, ◌⊎◌, length, take}
use Rattle.std.specs.Prelude.{drop, replicate, get_or, leb, ltb, eqb, Float}
use Rattle.std.proofs.Math.Option.{Option, none, some}
use Rattle.std.proofs.Common.{inl, inr}
use Rattle.std.specs.Float.{nan, binary32, binary64}
use Rattle.common.specs.Deviation.{count_limit, outside_unit}
use Rattle.refusal.specs.Lent.{over}
use Rattle.trcf.specs.Types.{is_none, normalizes, mode_of_letter}
use Rattle.trcf.specs.Settings.{Settings, imputes, all_one, input_limit, shingle_limit, start_bound}
use Rattle.trcf.specs.Calls.{finite, seen_limit}
use Rattle.trcf.specs.Preprocessor.{Reading, reading}
use Rattle.trcf.specs.declared.types.TransformMethod.{TransformMethod}
use Rattle.trcf.specs.declared.types.TransformMethod.TheVariants.{NONE, WEIGHTED, DIFFERENCE, SUBTRACT_MA, NORMALIZE, NORMALIZE_DIFFERENCE}
use Rattle.trcf.specs.declared.types.ForestMode.{ForestMode}
use Rattle.snapshot.specs.declared.settings.Set.{Set}
use Rattle.snapshot.specs.declared.settings.Tail.{Tail}
use Rattle.snapshot.specs.declared.kinds.Counters.{Counters}
use Rattle.snapshot.specs.declared.kinds.Timed.{Timed}
use Rattle.snapshot.specs.Read.{as_whole, as_float, every, all_codes, climbs, zeros, Counts, Three, Read, bad}
use Rattle.snapshot.specs.Steps.Scan.{field_of}
use Rattle.snapshot.specs.declared.field.Field.{Field}
use Rattle.snapshot.specs.declared.field.Field.TheVariants.{Bad}
use Rattle.snapshot.specs.declared.piece.Next.{Next}

-- ---- places: what is left of the text from there on

abbrev pub placed : Answer ℕ → List ℕ → Option (List ℕ)
placed (Some n) t = some (drop n t)
placed None t = none

abbrev pub onto : {A B : Type 0} → Option A → (A → Option B) → Option B
onto none g = none
onto (some a) g = g a

-- a value, and what is left after it
abbrev pub with_rest : {A : Type 0} → A → Option (List ℕ) → Option (A × List ℕ)
with_rest a none = none
with_rest a (some z) = some (a, z)

-- ---- pieces

abbrev pub byte : ℕ → List ℕ → Option (List ℕ)
byte b [] = none
byte b (x ∷ l) = cond (eqb x b) (some l) none

abbrev pub name : ℕ → ℕ → ℕ → List ℕ → Option (List ℕ)
name a b c l = onto (onto (byte a l) (byte b)) (byte c)

-- how many bytes stand before the next tab or LF
abbrev pub field_length : List ℕ → ℕ
field_length [] = 0
field_length (b ∷ l) = let r = field_length l in cond (leb b 10) 0 (suc r)

-- the field after the tab at the place p, and the place after it
abbrev pub field_in : ℕ → List ℕ → Field
field_in k [] = Bad
field_in k (x ∷ l) = cond (eqb x 9) (field_of k (take (field_length l) l)) Bad

abbrev pub end_in : ℕ → List ℕ → ℕ
end_in p [] = p
end_in p (x ∷ l) = cond (eqb x 9) (suc p + field_length l) p

-- the rest of the text as one field: its tab was read before, as the bench does, which reads its input in pieces
abbrev pub rest_field : ℕ → ℕ → List ℕ → Next
rest_field k p t = record { field = field_of k (drop p t); end = length t }

abbrev pub tabbed_of : ℕ → ℕ → List ℕ → Next
tabbed_of k p t = record { field = field_in k (drop p t); end = end_in p (drop p t) }

-- by the kind, 0 to 2; the same with 4 more for the rest of the text
abbrev pub next_of : ℕ → ℕ → List ℕ → Next
next_of k p t = cond (leb 4 k) (rest_field (k - 4) p t) (tabbed_of k p t)

module _ {A : Type 0} (p : List ℕ → Option A) where
  abbrev pub one : List ℕ → Option (A × List ℕ)
  one [] = none
  one (x ∷ l) = cond (eqb x 9) (onto (p (take (field_length l) l)) (λ a. some (a, drop (field_length l) l))) none

-- as the code answers it: the number, and the place after its field
abbrev pub celled : {A : Type 0} → Answer (A × ℕ) → List ℕ → Option (A × List ℕ)
celled None t = none
celled (Some r) t = some (r.0, drop r.1 t)

abbrev pub before : {A : Type 0} → List A → Option (List A × List ℕ) → Option (List A × List ℕ)
before u none = none
before u (some r) = some (u ++ r.0, r.1)

-- n fields, each after its tab
abbrev pub fields : {A : Type 0} → (List ℕ → Option A) → ℕ → List ℕ → Option (List A × List ℕ)
fields p zero l = some ([], l)
fields p (suc n) l = onto (one p l) (λ r. before (r.0 ∷ []) (fields p n r.1))

-- what stands after the last field
abbrev pub closing : {A : Type 0} → Option (A × List ℕ) → Option (A × List ℕ)
closing none = none
closing (some r) = with_rest r.0 (byte 10 r.1)

-- a line of a name and n fields of one kind
unfoldable pub list_line : {A : Type 0} → (List ℕ → Option A) → ℕ → ℕ → ℕ → ℕ → List ℕ → Option (List A × List ℕ)
list_line p a b c n l = closing (onto (name a b c l) (fields p n))

-- n fields up to the first bad one
abbrev pub led : {A B : Type 0} → Option A → (A → List B) → List B
led none g = []
led (some a) g = g a

abbrev pub good_fields : {A : Type 0} → (List ℕ → Option A) → ℕ → List ℕ → List A
good_fields p zero l = []
good_fields p (suc n) l = led (one p l) (λ r. r.0 ∷ good_fields p n r.1)

-- the same of a line: none where it has another name
abbrev pub line_firsts : {A : Type 0} → (List ℕ → Option A) → ℕ → ℕ → ℕ → ℕ → List ℕ → List A
line_firsts p a b c n l = led (name a b c l) (good_fields p n)

-- what n fields leave in lent memory of that length: the fields; of bad ones, those before the first bad one, and after them what it held before
pub record Filled {A : Type 0} (o : Option (List A × List ℕ)) (v : List A) (t : List ℕ) (old : List A) (r : Answer ℕ) (new : List A) : Type 0 where
  pub told : with_rest new (placed r t) ≡ o
  pub kept : length new ≡ length old
  pub left : new ≡ over old v

-- ---- what is read of a line, where it passes the tests of its kind

abbrev pub checked : {A : Type 0} → (A → Bool) → Option (A × List ℕ) → Option (A × List ℕ)
checked q none = none
checked q (some r) = cond (q r.0) (some r) none

-- the reading goes on with what was read, or this line is the bad one
abbrev pub via : {A : Type 0} → Option (A × List ℕ) → (A → List ℕ → Read) → Read
via none g = bad 1
via (some r) g = g r.0 r.1

-- ---- the lines

-- `wgt`: "weights against NONE: line 2"
unfoldable pub wgt_test : TransformMethod → List Float → Bool
wgt_test m v = every (not (is_none m && not (all_one v)) ∷ [])

unfoldable pub wgt_by : TransformMethod → ℕ → List ℕ → Option (List Float × List ℕ)
wgt_by m d l = checked (wgt_test m) (list_line (as_float binary32) 119 103 116 d l)

-- `chn`: d codes of 16 bits
unfoldable pub chn_by : ℕ → List ℕ → Option (List ℕ × List ℕ)
chn_by d l = checked all_codes (list_line as_whole 99 104 110 d l)

-- the one kind of line, or else the other
abbrev pub either_of : {A B : Type 0} → Option (A × List ℕ) → Option (B × List ℕ) → Option ((A ⊎ B) × List ℕ)
either_of (some r) o = some (inl r.0, r.1)
either_of none (some r) = some (inr r.0, r.1)
either_of none none = none

-- how many lines hold codes, the codes, and what is left after them
pub record Codes : Type 0 where
  pub extra : ℕ
  pub codes : List ℕ
  pub rest : List ℕ

abbrev pub codes_read : ℕ → List ℕ → List ℕ → Codes
codes_read n cs l = record { extra = n; codes = cs; rest = l }

-- "a text lacking it is read as all zeros"
abbrev pub chn_or : ℕ → Option (List ℕ × List ℕ) → List ℕ → Codes
chn_or d (some r) l = codes_read 1 r.0 r.1
chn_or d none l = codes_read 0 (replicate d 0) l

-- `cnt`: "While waiting … internal is 0"
abbrev pub counts_of : List ℕ → Counts
counts_of w = record { values_seen = get_or w 0 0; internal_timestamp = get_or w 1 0; count = get_or w 2 0 }

abbrev pub counts_if_read : Option (List ℕ × List ℕ) → Option (Counts × List ℕ)
counts_if_read none = none
counts_if_read (some r) = some (counts_of r.0, r.1)

unfoldable pub cnt_test : TransformMethod → ℕ → Counts → Bool
cnt_test m start c =
    leb c.values_seen seen_limit
    && (leb c.internal_timestamp seen_limit
    && (leb c.count count_limit && (not (normalizes m && ltb c.values_seen start) || eqb c.internal_timestamp 0)))

abbrev pub counts_read : ℕ → ℕ → ℕ → Counts
counts_read a b c = record { values_seen = a; internal_timestamp = b; count = c }

-- as the code answers it: what the line says, and what is left after it
abbrev pub cnt_told : Answer Counters → List ℕ → Option (Counts × List ℕ)
cnt_told None t = none
cnt_told (Some r) t = some (counts_read r.seen r.internal r.count, drop r.end t)

unfoldable pub cnt_by : TransformMethod → ℕ → List ℕ → Option (Counts × List ℕ)
cnt_by m start l = checked (cnt_test m start) (counts_if_read (list_line as_whole 99 110 116 3 l))

-- `tim`: "none falling"; "With internal 0 all `tim` are 0."
unfoldable pub tim_test : ℕ → List ℕ → Bool
tim_test internal ts = climbs 0 ts && (not (eqb internal 0) || zeros ts)

unfoldable pub tim_by : ℕ → ℕ → List ℕ → Option (List ℕ × List ℕ)
tim_by internal k l = checked (tim_test internal) (list_line as_whole 116 105 109 k l)

-- `buf`: a time that does not fall, d finite numbers
abbrev pub timed : ℕ → Option (List Float × List ℕ) → Option (Reading × List ℕ)
timed t none = none
timed t (some r) = some (reading r.0 t, r.1)

unfoldable pub buf_test : ℕ → Reading → Bool
buf_test p r = leb p r.time && finite r.value

unfoldable pub buf_raw : ℕ → List ℕ → Option (Reading × List ℕ)
buf_raw d l = onto (name 98 117 102 l) (λ z. onto (one as_whole z) (λ t. closing (timed t.0 (fields (as_float binary32) d t.1))))

unfoldable pub buf_by : ℕ → ℕ → List ℕ → Option (Reading × List ℕ)
buf_by d p l = checked (buf_test p) (buf_raw d l)

-- its numbers up to the first bad one: none where its name or its time is bad
abbrev pub buf_firsts : ℕ → List ℕ → List Float
buf_firsts d l = led (name 98 117 102 l) (λ z. led (one as_whole z) (λ t. good_fields (as_float binary32) d t.1))

-- as the code answers it, beside the numbers in lent memory
abbrev pub buf_told : List Float → Answer Timed → List ℕ → Option (Reading × List ℕ)
buf_told v None t = none
buf_told v (Some r) t = some (reading v r.time, drop r.end t)

-- what one `buf` line leaves: its numbers in lent memory, and its time
pub record FilledWith (o : Option (Reading × List ℕ)) (v : List Float) (t : List ℕ) (old : List Float) (r : Answer Timed) (new : List Float) : Type 0 where
  pub told : buf_told new r t ≡ o
  pub kept : length new ≡ length old
  pub left : new ≡ over old v

-- `dev`
abbrev pub three_of : List Float → Three
three_of v = record { weight = get_or v 0 nan; sum = get_or v 1 nan; squares = get_or v 2 nan }

abbrev pub threed : Option (List Float × List ℕ) → Option (Three × List ℕ)
threed none = none
threed (some r) = some (three_of r.0, r.1)

unfoldable pub dev_by : List ℕ → Option (Three × List ℕ)
dev_by l = threed (list_line (as_float binary64) 100 101 118 3 l)

-- `set`: the letter of the mode, five whole numbers, decay and weight_time
abbrev pub mode_named : ForestMode → Option ForestMode
mode_named m = cond (imputes m) none (some m)

abbrev pub mode_in : List ℕ → Option ForestMode
mode_in [] = none
mode_in (x ∷ l) = mode_named (mode_of_letter x)

abbrev pub method_in : ℕ → Option TransformMethod
method_in zero = some NONE
method_in (suc zero) = some WEIGHTED
method_in (suc (suc zero)) = some DIFFERENCE
method_in (suc (suc (suc zero))) = some SUBTRACT_MA
method_in (suc (suc (suc (suc zero)))) = some NORMALIZE
method_in (suc (suc (suc (suc (suc zero))))) = some NORMALIZE_DIFFERENCE
method_in (suc (suc (suc (suc (suc (suc n)))))) = none

-- rows 2, 3, 4, 6, 7 and 8
unfoldable pub set_test : ℕ → ℕ → ℕ → ℕ → Float → Bool
set_test d k start stop decay =
    not (eqb d 0)
    && (not (eqb k 0) && (not (ltb input_limit d || ltb shingle_limit k) && (not (outside_unit decay) && (not (ltb stop start) && not (leb start_bound start)))))

unfoldable pub tail_by : List ℕ → Option ((Float × Float) × List ℕ)
tail_by l = onto (one (as_float binary64) l) (λ y. onto (one (as_float binary32) y.1) (λ x. with_rest (y.0, x.0) (byte 10 x.1)))

-- as the code answers it
abbrev pub tail_told : Answer Tail → List ℕ → Option ((Float × Float) × List ℕ)
tail_told None t = none
tail_told (Some r) t = some ((r.decay, r.weight_time), drop r.end t)

abbrev pub settings_with : ForestMode → TransformMethod → List ℕ → Float → Float → Settings
settings_with m t w y x =
    record {
      mode = m;
      method = t;
      d = get_or w 1 0;
      k = get_or w 2 0;
      start = get_or w 3 0;
      stop = get_or w 4 0;
      decay = y;
      weight_time = x;
      weights = [];
      codes = [];
    }

abbrev pub settings_if_read : ForestMode → TransformMethod → List ℕ → Option ((Float × Float) × List ℕ) → Option (Settings × List ℕ)
settings_if_read m t w none = none
settings_if_read m t w (some r) = cond (set_test (get_or w 1 0) (get_or w 2 0) (get_or w 3 0) (get_or w 4 0) r.0.0) (some (settings_with m t w r.0.0 r.0.1, r.1)) none

unfoldable pub set_by : List ℕ → Option (Settings × List ℕ)
set_by l =
    onto (onto (name 115 101 116 l) (byte 9))
    (λ z. onto (mode_in z) (λ m. onto (fields as_whole 5 (drop 1 z)) (λ w. onto (method_in (get_or w.0 0 0)) (λ t. settings_if_read m t w.0 (tail_by w.1)))))

abbrev pub settings_told : Set → Settings
settings_told r =
    record {
      mode = r.mode;
      method = r.method;
      d = r.d;
      k = r.k;
      start = r.start;
      stop = r.stop;
      decay = r.decay;
      weight_time = r.weight_time;
      weights = [];
      codes = [];
    }

-- as the code answers it
abbrev pub set_told : Answer Set → List ℕ → Option (Settings × List ℕ)
set_told None t = none
set_told (Some r) t = some (settings_told r, drop r.end t)
