-- A line of the bench, cell by cell: document 01, 'The bench …', with fields as in 'Trace text'. "A `wgt`, `p` or `l` line may hold any number of
-- f32 fields": those past the ones that are needed are checked, and neither kept nor counted.
use Prim.Native.Char.{code}
use Rattle.std.specs.Prelude.{ℕ, ◌+◌, Bool, cond, ◌||◌, List, [], ◌∷◌, leb, ltb, eqb, set, take, replicate, Float, Option, Some, None}
use Rattle.std.specs.Float.{binary32, binary64}
use Rattle.common.specs.Deviation.{zero64}
use Rattle.trcf.specs.Types.{mode_of_letter}
use Rattle.trcf.specs.Settings.{imputes}
use Rattle.trcf.specs.Transformer.{zero32}
use Rattle.snapshot.specs.Read.{as_whole, as_float}
use Rattle.snapshot.specs.Scan.{number_of, single_of, double_of}
use Rattle.snapshot.specs.declared.field.Field.{Field}
use Rattle.snapshot.specs.declared.field.Field.TheVariants.{Single, Double, Whole, Bad}
use Rattle.bench_core.specs.declared.line.Name.{Name}
use Rattle.bench_core.specs.declared.line.Name.TheVariants.{Unread, Set, Weights, Point, Learn, Drain, Save, Other}
use Rattle.bench_core.specs.declared.line.Place.{Place}
use Rattle.bench_core.specs.declared.line.Place.TheVariants.{AsLetter, AsMethod, AsWhole, AsDouble, AsSingle, Nowhere}
use Rattle.bench_core.specs.declared.line.Line.{Line}

-- ---- names: `set`, `wgt`, `p`, `l`, `d`, `s`

abbrev pub name_number : Name → ℕ
name_number Unread = 0
name_number Set = 1
name_number Weights = 2
name_number Point = 3
name_number Learn = 4
name_number Drain = 5
name_number Save = 6
name_number Other = 7

-- whether two names are the same
abbrev pub is_named : Name → Name → Bool
is_named a b = eqb (name_number a) (name_number b)

-- `p` and `l` bring a reading
abbrev pub is_reading : Name → Bool
is_reading n = is_named n Point || is_named n Learn

abbrev pub short_name : ℕ → Name
short_name a = cond (eqb a (code "p")) Point (cond (eqb a (code "l")) Learn (cond (eqb a (code "d")) Drain (cond (eqb a (code "s")) Save Other)))

abbrev pub long_name : ℕ → ℕ → ℕ → Name
long_name a b c =
    cond (eqb c (code "t")) (cond (eqb a (code "s")) (cond (eqb b (code "e")) Set Other) (cond (eqb a (code "w")) (cond (eqb b (code "g")) Weights Other) Other)) Other

abbrev pub name_of : List ℕ → Name
name_of [] = Other
name_of (a ∷ []) = short_name a
name_of (a ∷ b ∷ []) = Other
name_of (a ∷ b ∷ c ∷ []) = long_name a b c
name_of (a ∷ b ∷ c ∷ d ∷ r) = Other

-- ---- places

-- "`set` mode, method, d, k, start, stop, decay (f64), weight_time (f32)"
abbrev pub set_place : ℕ → Place
set_place i =
    cond (eqb i 0) AsLetter (cond (eqb i 1) AsMethod (cond (ltb i 6) AsWhole (cond (eqb i 6) AsDouble (cond (eqb i 7) AsSingle Nowhere))))

-- "`p` time values; `l` time values"
abbrev pub call_place : ℕ → Place
call_place i = cond (eqb i 0) AsWhole AsSingle

abbrev pub place_of : Name → ℕ → Place
place_of n i = cond (is_named n Set) (set_place i) (cond (is_named n Weights) AsSingle (cond (is_reading n) (call_place i) Nowhere))

-- ---- fields

-- "mode (S STANDARD, T TIME_AUGMENTED)", and G (request 114)
abbrev pub letter_of : List ℕ → Option ℕ
letter_of [] = None
letter_of (a ∷ []) = cond (imputes (mode_of_letter a)) None (Some a)
letter_of (a ∷ b ∷ r) = None

-- "method (0 NONE, … 5 NORMALIZE_DIFFERENCE)"
abbrev pub method_field : Option ℕ → Option ℕ
method_field None = None
method_field (Some n) = cond (leb n 5) (Some n) None

-- ---- a line with a field more

abbrev pub line : Name → ℕ → List ℕ → Float → ℕ → List Float → Line
line name fields wholes double count singles =
    record { name = name; fields = fields; wholes = wholes; double = double; count = count; singles = singles }

unfoldable pub blank_line : Line
blank_line = line Unread 0 (replicate 6 0) zero64 0 (replicate 17 zero32)

abbrev pub named_line : Line → Name → Line
named_line l n = line n l.fields l.wholes l.double l.count l.singles

-- a line of another form stays one
abbrev pub other_line : Line → Line
other_line l = named_line l Other

-- fields are counted to 9, one more than any line asks for
abbrev pub after_field : ℕ → ℕ
after_field i = cond (ltb i 9) (i + 1) i

abbrev pub with_whole : Line → Option ℕ → Line
with_whole l None = other_line l
with_whole l (Some n) =
    cond (leb 6 l.fields) (other_line l)
    (line l.name (l.fields + 1) (set l.wholes l.fields n) l.double l.count l.singles)

abbrev pub with_double : Line → Field → Line
with_double l (Single x) = other_line l
with_double l (Double x) = line l.name (after_field l.fields) l.wholes x l.count l.singles
with_double l (Whole n) = other_line l
with_double l Bad = other_line l

-- 17 are kept: one more than any row asks for
abbrev pub with_single : Line → Field → Line
with_single l (Single x) =
    cond (leb 17 l.count) (line l.name (after_field l.fields) l.wholes l.double l.count l.singles)
    (line l.name (after_field l.fields) l.wholes l.double (l.count + 1) (set l.singles l.count x))
with_single l (Double x) = other_line l
with_single l (Whole n) = other_line l
with_single l Bad = other_line l

abbrev pub field_at : Place → Line → List ℕ → Line
field_at AsLetter l c = with_whole l (letter_of c)
field_at AsMethod l c = with_whole l (method_field (number_of (as_whole c)))
field_at AsWhole l c = with_whole l (number_of (as_whole c))
field_at AsDouble l c = with_double l (double_of (as_float binary64 c))
field_at AsSingle l c = with_single l (single_of (as_float binary32 c))
field_at Nowhere l c = other_line l

unfoldable pub line_with_field : Line → List ℕ → Line
line_with_field l c = field_at (place_of l.name l.fields) l c

-- the line with one cell more: its name, and then its fields
unfoldable pub cell_of : Line → List ℕ → Line
cell_of l c = cond (is_named l.name Unread) (named_line l (name_of c)) (line_with_field l c)

-- what a line that is ended asks for: `set` has 8 fields, `p` and `l` at least a time
unfoldable pub request_of : Line → Name
request_of l =
    cond (is_named l.name Set) (cond (eqb l.fields 8) Set Other)
    (cond (is_reading l.name) (cond (eqb l.fields 0) Other l.name) (cond (is_named l.name Unread) Other l.name))

-- the f32 fields that are kept
abbrev pub kept_count : ℕ → ℕ
kept_count n = cond (ltb 17 n) 17 n

unfoldable pub kept_of : Line → List Float
kept_of l = take (kept_count l.count) l.singles
