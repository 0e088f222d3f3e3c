-- The snapshot (document 01: trace text), byte for byte: 'Trace text'.
use Rattle.std.specs.Prelude.{ℕ, zero, suc, ◌+◌, ◌/◌, ◌%◌, Bool, true, false, cond, List, [], ◌∷◌, ◌++◌, map, ◌≡◌, take, drop, replicate, ltb, Float}
use Rattle.std.specs.Float.{Format, binary32, binary64}
use Rattle.std.specs.Float.Ieee.{to_bits}
use Rattle.trcf.specs.Types.{method_number, mode_letter}
use Rattle.trcf.specs.Settings.{Settings}
use Rattle.trcf.specs.Preprocessor.{State}
use Rattle.snapshot.specs.Ascii.{ascii}

-- ---- fields

-- "Whole numbers are decimal without leading zeros": `fuel` is above n
abbrev pub decimal : ℕ → ℕ → List ℕ
decimal zero n = []
decimal (suc fuel) n = elim (ltb n 10) [ true ↦ (48 + n) ∷ [] | false ↦ decimal fuel (n / 10) ++ ((48 + n % 10) ∷ []) ]

unfoldable pub whole : ℕ → List ℕ
whole n = decimal (suc n) n

-- "floats are bits in 8 (f32) or 16 (f64) lower-case hexadecimal digits"
abbrev pub digit : ℕ → ℕ
digit n = cond (ltb n 10) (48 + n) (87 + n)

abbrev pub hex : ℕ → ℕ → List ℕ
hex zero n = []
hex (suc w) n = hex w (n / 16) ++ (digit (n % 16) ∷ [])

abbrev pub width : Format → ℕ
width binary32 = 8
width binary64 = 16

-- "every not-a-number as 7fc00000 or 7ff8000000000000": that is what `to_bits` writes for the one `nan`
unfoldable pub float : Format → Float → List ℕ
float f x = hex (width f) (to_bits f x)

-- ---- lines: a name, and the fields after it

pub record Line : Type 0 where
  pub name : List ℕ
  pub fields : List (List ℕ)

abbrev pub named : List ℕ → List (List ℕ) → Line
named n fs = record { name = n; fields = fs }

-- "`set` mode, method, d, k, start, stop, decay (f64), weight_time (f32)"
unfoldable pub set_line : Settings → Line
set_line s =
    named (ascii "set")
    ((mode_letter s.mode ∷ []) ∷ whole (method_number s.method) ∷ whole s.d ∷ whole s.k ∷ whole s.start ∷ whole s.stop
    ∷ float binary64 s.decay ∷ float binary32 s.weight_time ∷ [])

-- "`wgt` d f32", "`inp` d × k f32", "`pnt` `get_dimension` f32"
abbrev pub wgt : List ℕ
wgt = ascii "wgt"

abbrev pub inp : List ℕ
inp = ascii "inp"

abbrev pub pnt : List ℕ
pnt = ascii "pnt"

unfoldable pub singles : List ℕ → List Float → Line
singles name v = named name (map (float binary32) v)

-- "a `chn` line of d decimal codes after `wgt`"
abbrev pub chn : List ℕ
chn = ascii "chn"

unfoldable pub chn_line : List ℕ → Line
chn_line cs = named chn (map whole cs)

-- "`cnt` values_seen, internal, count"
unfoldable pub cnt_line : ℕ → ℕ → ℕ → Line
cnt_line v i c = named (ascii "cnt") (whole v ∷ whole i ∷ whole c ∷ [])

-- "`dev` weight, sum, squares (f64)"
unfoldable pub dev_line : Float → Float → Float → Line
dev_line a b c = named (ascii "dev") (float binary64 a ∷ float binary64 b ∷ float binary64 c ∷ [])

abbrev pub dev_lines : List Float → List Line
dev_lines [] = []
dev_lines (a ∷ []) = []
dev_lines (a ∷ b ∷ []) = []
dev_lines (a ∷ b ∷ c ∷ l) = dev_line a b c ∷ dev_lines l

-- "`tim` k times"
unfoldable pub tim_line : List ℕ → Line
tim_line ts = named (ascii "tim") (map whole ts)

-- "`buf` time, d finite f32"
unfoldable pub buf_line : ℕ → List Float → Line
buf_line t x = named (ascii "buf") (whole t ∷ map (float binary32) x)

abbrev pub buf_lines : ℕ → List Float → List ℕ → List Line
buf_lines n v [] = []
buf_lines n v (t ∷ ts) = buf_line t (take n v) ∷ buf_lines n (drop n v) ts

-- from `cnt` on
unfoldable pub body_lines : State → List Line
body_lines w =
    cnt_line w.values_seen w.internal_timestamp w.count
    ∷ (dev_lines w.statistics
    ++ (singles inp w.last_shingled_input
    ∷ singles pnt w.last_shingled_point
    ∷ tim_line w.previous_timestamps
    ∷ buf_lines w.settings.d w.initial_values w.initial_timestamps))

-- with the codes' line or without it
unfoldable pub lines_by : Bool → State → List Line
lines_by true w = set_line w.settings ∷ singles wgt w.settings.weights ∷ chn_line w.settings.codes ∷ body_lines w
lines_by false w = set_line w.settings ∷ singles wgt w.settings.weights ∷ body_lines w

-- "Lines end in LF, fields are parted by tabs."
abbrev pub tabbed_fields : List (List ℕ) → List ℕ
tabbed_fields [] = 10 ∷ []
tabbed_fields (f ∷ fs) = 9 ∷ (f ++ tabbed_fields fs)

abbrev pub bytes_of : List Line → List ℕ
bytes_of [] = []
bytes_of (l ∷ ls) = l.name ++ tabbed_fields l.fields ++ bytes_of ls

-- the text of a state, as it is put away
unfoldable pub render : State → List ℕ
render w = bytes_of (lines_by true w)

-- a text of a state: the one that is put away, or, where every code is 0, the same without the codes' line
pub record TextOf (w : State) (t : List ℕ) : Type 0 where
  pub coded : Bool
  pub all_zero : coded ≡ false → w.settings.codes ≡ replicate w.settings.d 0
  pub is : bytes_of (lines_by coded w) ≡ t
