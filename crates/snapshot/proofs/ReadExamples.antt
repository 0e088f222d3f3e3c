-- Texts read by computation: document 01's bench sample is taken up, damaged ones give their line.
use Prim.Native.Nat.{ℕ}
use mathlib.Core.Path.{◌≡◌, refl}
use mathlib.Core.List.{List, [], ◌∷◌, ◌++◌}
use mathlib.Core.Option.{none, some}
use lib.Ieee.{nan, fits, to_bits, size, of_bits, of_fields, odd, le, lt, eq}
use Rattle.common.specs.Deviation.{outside_unit}
use Rattle.trcf.specs.Settings.{block, dimension, waiting, all_one}
use Rattle.trcf.specs.Calls.{finite}
use Rattle.trcf.specs.Preprocessor.{fresh}
use Rattle.snapshot.specs.Text.{render, lines_by, body_lines, set_line, singles, chn_line, cnt_line, dev_line, tim_line, buf_line, whole, float}
use Rattle.snapshot.specs.Read.{carries, with_channel_line, Read, taken, bad, read, judge, float_from, may_stand, as_whole}
use lib.ListN.{replicate}
use Rattle.refusal.specs.Lent.{over}
use Rattle.trcf.specs.View.{Lent, lent, lent_short, written_over, no_head}
use Rattle.snapshot.specs.Restore.{restore_outcome, restored, restore_of}
use Rattle.snapshot.specs.Ascii.{ascii}
use Rattle.snapshot.proofs.ReadText.{sample}

-- to unfold this is to unfold whatever its line names
read_all : Unit {0}
unfolding read judge float_from may_stand block dimension waiting finite outside_unit all_one set_line singles cnt_line dev_line tim_line buf_line whole float
    to_bits size of_bits of_fields odd fits le lt eq fresh render lines_by body_lines chn_line
read_all = tt

-- ---- lines

abbrev set_l : List ℕ
set_l = ascii "set\tS\t0\t1\t1\t10\t20\t0000000000000000\t3f800000\n"

abbrev wgt_l : List ℕ
wgt_l = ascii "wgt\t3f800000\n"

abbrev cnt_l : List ℕ
cnt_l = ascii "cnt\t0\t0\t0\n"

abbrev dev_l : List ℕ
dev_l = ascii "dev\t0000000000000000\t0000000000000000\t0000000000000000\n"

abbrev inp_l : List ℕ
inp_l = ascii "inp\t00000000\n"

abbrev pnt_l : List ℕ
pnt_l = ascii "pnt\t00000000\n"

abbrev tim_l : List ℕ
tim_l = ascii "tim\t0\n"

abbrev set4_l : List ℕ
set4_l = ascii "set\tS\t4\t1\t1\t2\t20\t0000000000000000\t3f800000\n"

abbrev cnt1_l : List ℕ
cnt1_l = ascii "cnt\t1\t0\t0\n"

abbrev cnt2_l : List ℕ
cnt2_l = ascii "cnt\t2\t0\t0\n"

abbrev cnt3_l : List ℕ
cnt3_l = ascii "cnt\t3\t1\t1\n"

abbrev cnt3w_l : List ℕ
cnt3w_l = ascii "cnt\t1\t1\t0\n"

abbrev buf5_l : List ℕ
buf5_l = ascii "buf\t5\t00000000\n"

abbrev buf6_l : List ℕ
buf6_l = ascii "buf\t6\t3f800000\n"

abbrev bufinf_l : List ℕ
bufinf_l = ascii "buf\t6\t7f800000\n"

abbrev decay1_l : List ℕ
decay1_l = ascii "set\tS\t0\t1\t1\t10\t20\t3ff0000000000000\t3f800000\n"

abbrev lead_l : List ℕ
lead_l = ascii "set\tS\t0\t01\t1\t10\t20\t0000000000000000\t3f800000\n"

abbrev start_l : List ℕ
start_l = ascii "set\tS\t0\t1\t1\t21\t20\t0000000000000000\t3f800000\n"

abbrev wgt2_l : List ℕ
wgt2_l = ascii "wgt\t40000000\n"

abbrev wgtup_l : List ℕ
wgtup_l = ascii "wgt\t3F800000\n"

abbrev wgtnan_l : List ℕ
wgtnan_l = ascii "wgt\t7fc00001\n"

abbrev devnan_l : List ℕ
devnan_l = ascii "dev\t7ff8000000000000\t0000000000000000\t0000000000000000\n"

abbrev devbad_l : List ℕ
devbad_l = ascii "dev\t7ff8000000000001\t0000000000000000\t0000000000000000\n"

abbrev devcut_l : List ℕ
devcut_l = ascii "dev\t0000000000000000\t0000000000000000\n"

abbrev tim1_l : List ℕ
tim1_l = ascii "tim\t1\n"

abbrev timcut_l : List ℕ
timcut_l = ascii "tim\t0"

abbrev timcr_l : List ℕ
timcr_l = ascii "tim\t0\r\n"

abbrev cntbig_l : List ℕ
cntbig_l = ascii "cnt\t9223372036854775808\t0\t0\n"

abbrev set0_l : List ℕ
set0_l = ascii "set\tS\t5\t1\t1\t0\t20\t0000000000000000\t3f800000\n"

abbrev cnt030_l : List ℕ
cnt030_l = ascii "cnt\t0\t3\t0\n"

abbrev cnt300_l : List ℕ
cnt300_l = ascii "cnt\t3\t0\t0\n"

abbrev cnt210_l : List ℕ
cnt210_l = ascii "cnt\t2\t1\t0\n"

abbrev stopbig_l : List ℕ
stopbig_l = ascii "set\tS\t0\t1\t1\t10\t18446744073709551616\t0000000000000000\t3f800000\n"

abbrev k65_l : List ℕ
k65_l = ascii "set\tS\t0\t1\t65\t10\t20\t0000000000000000\t3f800000\n"

abbrev set_tl : List ℕ
set_tl = ascii "set\tT\t1\t2\t2\t0\t20\t3fe0000000000000\t3f800000\n"

abbrev wgt_tl : List ℕ
wgt_tl = ascii "wgt\t40000000\tbf800000\n"

abbrev inp_tl : List ℕ
inp_tl = ascii "inp\t00000000\t00000000\t00000000\t00000000\n"

abbrev pnt_tl : List ℕ
pnt_tl = ascii "pnt\t00000000\t00000000\t00000000\t00000000\t00000000\t00000000\n"

abbrev tim_tl : List ℕ
tim_tl = ascii "tim\t7\t9\n"

abbrev tim_tf_l : List ℕ
tim_tf_l = ascii "tim\t9\t7\n"

abbrev cnt_tl : List ℕ
cnt_tl = ascii "cnt\t2\t2\t2\n"

abbrev rest_l : List ℕ
rest_l = ascii "x"

abbrev lf_l : List ℕ
lf_l = ascii "\n"

abbrev row1_l : List ℕ
row1_l = ascii "set\tI\t0\t1\t1\t10\t20\t0000000000000000\t3f800000\n"

abbrev method6_l : List ℕ
method6_l = ascii "set\tS\t6\t1\t1\t10\t20\t0000000000000000\t3f800000\n"

abbrev d0_l : List ℕ
d0_l = ascii "set\tS\t0\t0\t1\t10\t20\t0000000000000000\t3f800000\n"

abbrev k0_l : List ℕ
k0_l = ascii "set\tS\t0\t1\t0\t10\t20\t0000000000000000\t3f800000\n"

abbrev d17_l : List ℕ
d17_l = ascii "set\tS\t0\t17\t1\t10\t20\t0000000000000000\t3f800000\n"

abbrev d2_l : List ℕ
d2_l = ascii "set\tS\t0\t2\t1\t10\t20\t0000000000000000\t3f800000\n"

abbrev late8_l : List ℕ
late8_l = ascii "set\tS\t0\t1\t1\t2000\t2000\t0000000000000000\t3f800000\n"

abbrev start501_l : List ℕ
start501_l = ascii "set\tS\t0\t1\t1\t501\t501\t0000000000000000\t3f800000\n"

abbrev start1999_l : List ℕ
start1999_l = ascii "set\tS\t0\t1\t1\t1999\t1999\t0000000000000000\t3f800000\n"

abbrev stop_max_l : List ℕ
stop_max_l = ascii "set\tS\t0\t1\t1\t10\t18446744073709551615\t0000000000000000\t3f800000\n"

abbrev decay_minus_l : List ℕ
decay_minus_l = ascii "set\tS\t0\t1\t1\t10\t20\t8000000000000000\t3f800000\n"

abbrev wgt1m_l : List ℕ
wgt1m_l = ascii "wgt\tbf800000\n"

abbrev devmore_l : List ℕ
devmore_l = ascii "dev\t0000000000000000\t0000000000000000\t0000000000000000\t0000000000000000\n"

abbrev cntold_l : List ℕ
cntold_l = ascii "cnt\t0\t0\t2147483647\n"

abbrev cnttop_l : List ℕ
cnttop_l = ascii "cnt\t0\t0\t9007199254740990\n"

abbrev cntlimit_l : List ℕ
cntlimit_l = ascii "cnt\t0\t0\t9007199254740991\n"

abbrev cntup_l : List ℕ
cntup_l = ascii "CNT\t0\t0\t0\n"

abbrev empty_field_l : List ℕ
empty_field_l = ascii "cnt\t0\t0\t0\t\n"

abbrev ten : List ℕ → List ℕ
ten l = l ++ (l ++ (l ++ (l ++ (l ++ (l ++ (l ++ (l ++ (l ++ l))))))))

abbrev nine : List ℕ → List ℕ
nine l = l ++ (l ++ (l ++ (l ++ (l ++ (l ++ (l ++ (l ++ l)))))))

abbrev ends : List ℕ
ends = inp_l ++ (pnt_l ++ tim_l)

abbrev chn_l : List ℕ
chn_l = ascii "chn\t0\n"

abbrev text : List ℕ → List ℕ → List ℕ → List ℕ → List ℕ → List ℕ
text s w c e r = s ++ (w ++ (c ++ (ten dev_l ++ (e ++ r))))

-- ---- taken up

sample_is : render (fresh sample) ≡ text set_l wgt_l (chn_l ++ cnt_l) ends []
unfolding read_all
sample_is = refl

sample_read : read (text set_l wgt_l cnt_l ends []) ≡ taken (fresh sample)
unfolding read_all
sample_read = refl

-- with the codes' line, and what is put away of the text without it
coded_read : read (text set_l wgt_l (chn_l ++ cnt_l) ends []) ≡ taken (fresh sample)
unfolding read_all
coded_read = refl

bare_kept : with_channel_line 1 (text set_l wgt_l cnt_l ends []) ≡ text set_l wgt_l (chn_l ++ cnt_l) ends []
unfolding read_all with_channel_line carries
bare_kept = refl

-- one code too many, and one past 16 bits: line 3; codes twice: line 4
codes_bad : (read (text set_l wgt_l (ascii "chn\t0\t0\n" ++ cnt_l) ends []) ≡ bad 3) × (read (text set_l wgt_l (ascii "chn\t65536\n" ++ cnt_l) ends []) ≡ bad 3)
    × (read (text set_l wgt_l (chn_l ++ (chn_l ++ cnt_l)) ends []) ≡ bad 4)
unfolding read_all
codes_bad = (refl, refl, refl)

abbrev times_of : Read → List ℕ
times_of (taken w) = w.initial_timestamps
times_of (bad n) = 0 ∷ 0 ∷ n ∷ []

waits_one : times_of (read (text set4_l wgt_l cnt1_l ends buf5_l)) ≡ 5 ∷ []
unfolding read_all
waits_one = refl

stranded : times_of (read (text set4_l wgt_l cnt3_l (inp_l ++ (pnt_l ++ tim1_l)) (buf5_l ++ buf6_l))) ≡ 5 ∷ 6 ∷ []
unfolding read_all
stranded = refl

a_nan : times_of (read (set_l ++ (wgt_l ++ (cnt_l ++ (devnan_l ++ (nine dev_l ++ ends)))))) ≡ []
unfolding read_all
a_nan = refl

-- internal above values_seen with start 0; values_seen above start with `buf` lines and internal 0 (READINGS 24)
start_none : times_of (read (text set0_l wgt_l cnt030_l (inp_l ++ (pnt_l ++ tim1_l)) [])) ≡ []
unfolding read_all
start_none = refl

seen_above : times_of (read (text set4_l wgt_l cnt300_l ends (buf5_l ++ buf6_l))) ≡ 5 ∷ 6 ∷ []
unfolding read_all
seen_above = refl

abbrev wide : List ℕ → List ℕ
wide ts = set_tl ++ (wgt_tl ++ (cnt_tl ++ (ten dev_l ++ (dev_l ++ (dev_l ++ (dev_l ++ (dev_l ++ (dev_l ++ (inp_tl ++ (pnt_tl ++ ts))))))))))

abbrev stamps_of : Read → List ℕ
stamps_of (taken w) = w.previous_timestamps
stamps_of (bad n) = n ∷ []

augmented : stamps_of (read (wide tim_tl)) ≡ 7 ∷ 9 ∷ []
unfolding read_all
augmented = refl

-- stop 2^64 − 1; decay −0.0, kept as its own bits (READINGS 19)
stop_max : times_of (read (text stop_max_l wgt_l cnt_l ends [])) ≡ []
unfolding read_all
stop_max = refl

decay_minus : times_of (read (text decay_minus_l wgt_l cnt_l ends [])) ≡ []
unfolding read_all
decay_minus = refl

abbrev count_of : Read → ℕ
count_of (taken w) = w.count
count_of (bad n) = 0

-- a count past the Rust's, and the limit itself
count_past : count_of (read (text set_l wgt_l cntold_l ends [])) ≡ 2147483647
unfolding read_all
count_past = refl

count_limit_lem : count_of (read (text set_l wgt_l cnttop_l ends [])) ≡ 9007199254740990
unfolding read_all
count_limit_lem = refl

-- ---- damaged

-- no line at all
empty : read ([]) ≡ bad 1
unfolding read_all
empty = refl

-- stop 2^64
stop_big : read (text stopbig_l wgt_l cnt_l ends []) ≡ bad 1
unfolding read_all
stop_big = refl

-- row 4
k_large : read (text k65_l wgt_l cnt_l ends []) ≡ bad 1
unfolding read_all
k_large = refl

-- d 2, k 2, TIME_AUGMENTED: tim falls
times_fall : read (wide tim_tf_l) ≡ bad 21
unfolding read_all
times_fall = refl

-- values_seen = start with internal above 0: no buf line may stand
buf_not_allowed : read (text set4_l wgt_l cnt210_l (inp_l ++ (pnt_l ++ tim1_l)) buf5_l) ≡ bad 17
unfolding read_all
buf_not_allowed = refl

-- row 6
decay_one : read (text decay1_l wgt_l cnt_l ends []) ≡ bad 1
unfolding read_all
decay_one = refl

-- d written 01
leading_zero : read (text lead_l wgt_l cnt_l ends []) ≡ bad 1
unfolding read_all
leading_zero = refl

-- row 7
start_above : read (text start_l wgt_l cnt_l ends []) ≡ bad 1
unfolding read_all
start_above = refl

-- row 9: weights against NONE
weight_two : read (text set_l wgt2_l cnt_l ends []) ≡ bad 2
unfolding read_all
weight_two = refl

-- 3F800000
upper_case : read (text set_l wgtup_l cnt_l ends []) ≡ bad 2
unfolding read_all
upper_case = refl

-- a not-a-number in another pattern
other_nan : read (text set4_l wgtnan_l cnt_l ends []) ≡ bad 2
unfolding read_all
other_nan = refl

-- a line twice
two_weights : read (text set_l (wgt_l ++ wgt_l) cnt_l ends []) ≡ bad 3
unfolding read_all
two_weights = refl

-- values_seen 2^63
count_big : read (text set_l wgt_l cntbig_l ends []) ≡ bad 3
unfolding read_all
count_big = refl

-- internal above 0 while waiting
internal_waiting : read (text set4_l wgt_l cnt3w_l ends buf5_l) ≡ bad 3
unfolding read_all
internal_waiting = refl

dev_nan : read (set_l ++ (wgt_l ++ (cnt_l ++ (devbad_l ++ (nine dev_l ++ ends))))) ≡ bad 4
unfolding read_all
dev_nan = refl

-- a dev_line line of two fields, the last of ten
dev_short : read (set_l ++ (wgt_l ++ (cnt_l ++ (nine dev_l ++ (devcut_l ++ ends))))) ≡ bad 13
unfolding read_all
dev_short = refl

-- inp where a tenth dev_line belongs
dev_missing : read (set_l ++ (wgt_l ++ (cnt_l ++ (nine dev_l ++ ends)))) ≡ bad 13
unfolding read_all
dev_missing = refl

-- a time above 0 with internal 0
tim_one : read (text set_l wgt_l cnt_l (inp_l ++ (pnt_l ++ tim1_l)) []) ≡ bad 16
unfolding read_all
tim_one = refl

-- the last LF is missing
no_lf : read (text set_l wgt_l cnt_l (inp_l ++ (pnt_l ++ timcut_l)) []) ≡ bad 16
unfolding read_all
no_lf = refl

-- CR before LF
cr_lf : read (text set_l wgt_l cnt_l (inp_l ++ (pnt_l ++ timcr_l)) []) ≡ bad 16
unfolding read_all
cr_lf = refl

-- the line after the last
no_tim : read (text set_l wgt_l cnt_l (inp_l ++ pnt_l) []) ≡ bad 16
unfolding read_all
no_tim = refl

-- bytes after it
behind : read (text set_l wgt_l cnt_l ends rest_l) ≡ bad 17
unfolding read_all
behind = refl

-- an empty line after it
behind_lf : read (text set_l wgt_l cnt_l ends lf_l) ≡ bad 17
unfolding read_all
behind_lf = refl

-- a buf line under NONE
buf_none : read (text set_l wgt_l cnt_l ends buf5_l) ≡ bad 17
unfolding read_all
buf_none = refl

-- past waiting, one of two: the line after the last
buf_too_few : read (text set4_l wgt_l cnt2_l ends buf5_l) ≡ bad 18
unfolding read_all
buf_too_few = refl

-- times fall
buf_falls : read (text set4_l wgt_l cnt2_l ends (buf6_l ++ buf5_l)) ≡ bad 18
unfolding read_all
buf_falls = refl

-- not finite
buf_infinite : read (text set4_l wgt_l cnt2_l ends (buf5_l ++ bufinf_l)) ≡ bad 18
unfolding read_all
buf_infinite = refl

-- one more than values_seen
buf_too_many : read (text set4_l wgt_l cnt1_l ends (buf5_l ++ buf6_l)) ≡ bad 18
unfolding read_all
buf_too_many = refl

-- row 1: its mode has no letter in a text
mode_i : read (text row1_l wgt_l cnt_l ends []) ≡ bad 1
unfolding read_all
mode_i = refl

-- a method above 5
method_six : read (text method6_l wgt_l cnt_l ends []) ≡ bad 1
unfolding read_all
method_six = refl

-- rows 2, 3, 4, 8
d_none : read (text d0_l wgt_l cnt_l ends []) ≡ bad 1
unfolding read_all
d_none = refl

k_none : read (text k0_l wgt_l cnt_l ends []) ≡ bad 1
unfolding read_all
k_none = refl

d_large : read (text d17_l wgt_l cnt_l ends []) ≡ bad 1
unfolding read_all
d_large = refl

abbrev bare : Lent
bare = lent (replicate 30 nan) (nan ∷ []) (nan ∷ []) (7 ∷ []) [] []

-- row 8 from below: start 501 and 1,999, and no memory for readings that wait
start_below : ((restore_of (text start501_l wgt_l cnt_l ends []) (0 ∷ []) bare).row ≡ 0) × ((restore_of (text start501_l wgt_l cnt_l ends []) (0 ∷ []) bare).head.start_normalization ≡ 501)
    × ((restore_of (text start1999_l wgt_l cnt_l ends []) (0 ∷ []) bare).row ≡ 0) × ((restore_of (text start1999_l wgt_l cnt_l ends []) (0 ∷ []) bare).head.start_normalization ≡ 1999)
unfolding read_all restore_of restored lent_short written_over over
start_below = (refl, refl, refl, refl)

start_large : read (text late8_l wgt_l cnt_l ends []) ≡ bad 1
unfolding read_all
start_large = refl

-- row 5
one_weight_of_two : read (text d2_l wgt_l cnt_l ends []) ≡ bad 2
unfolding read_all
one_weight_of_two = refl

-- row 9: −1
weight_minus : read (text set_l wgt1m_l cnt_l ends []) ≡ bad 2
unfolding read_all
weight_minus = refl

-- count 9,007,199,254,740,991
count_above : read (text set_l wgt_l cntlimit_l ends []) ≡ bad 3
unfolding read_all
count_above = refl

-- a name in the other case; an empty field more
name_upper : read (text set_l wgt_l cntup_l ends []) ≡ bad 3
unfolding read_all
name_upper = refl

field_more : read (text set_l wgt_l empty_field_l ends []) ≡ bad 3
unfolding read_all
field_more = refl

-- a dev line of four fields
dev_long : read (set_l ++ (wgt_l ++ (cnt_l ++ (devmore_l ++ (nine dev_l ++ ends))))) ≡ bad 4
unfolding read_all
dev_long = refl

-- ---- fields

f_max : as_whole (49 ∷ 56 ∷ 52 ∷ 52 ∷ 54 ∷ 55 ∷ 52 ∷ 52 ∷ 48 ∷ 55 ∷ 51 ∷ 55 ∷ 48 ∷ 57 ∷ 53 ∷ 53 ∷ 49 ∷ 54 ∷ 49 ∷ 53 ∷ []) ≡ some 18446744073709551615
unfolding as_whole read_all
f_max = refl

f_more : as_whole (49 ∷ 56 ∷ 52 ∷ 52 ∷ 54 ∷ 55 ∷ 52 ∷ 52 ∷ 48 ∷ 55 ∷ 51 ∷ 55 ∷ 48 ∷ 57 ∷ 53 ∷ 53 ∷ 49 ∷ 54 ∷ 49 ∷ 54 ∷ []) ≡ none
unfolding as_whole read_all
f_more = refl

f_empty : as_whole [] ≡ none
unfolding as_whole read_all
f_empty = refl

-- ---- `restore` over memory that held something else

-- set S 4 1 1 2 20 …, with one waiting reading at time 5
abbrev waiting_text : List ℕ
waiting_text = set4_l ++ (wgt_l ++ (cnt1_l ++ (ten dev_l ++ (inp_l ++ (pnt_l ++ (tim_l ++ buf5_l))))))

-- a list longer than the need, and one of the initial times that is just long enough
abbrev memory : List ℕ → Lent
memory initial = lent (replicate 31 nan) (nan ∷ nan ∷ []) (nan ∷ []) (7 ∷ 8 ∷ []) (nan ∷ nan ∷ nan ∷ []) initial

pub restored_waiting : ((restore_of waiting_text (0 ∷ []) (memory (4 ∷ 6 ∷ []))).row ≡ 0)
    × ((restore_of waiting_text (0 ∷ []) (memory (4 ∷ 6 ∷ []))).head.initial_len ≡ 1)
    × ((restore_of waiting_text (0 ∷ []) (memory (4 ∷ 6 ∷ []))).lent.initial_timestamps ≡ 5 ∷ 6 ∷ [])
    × ((restore_of waiting_text (0 ∷ []) (memory (4 ∷ 6 ∷ []))).lent.previous_timestamps ≡ 0 ∷ 8 ∷ [])
unfolding read_all restore_of restored lent_short written_over over
restored_waiting = (refl, refl, refl, refl)

-- row 20: start initial times do not fit
pub restored_short : restore_of waiting_text (0 ∷ []) (memory (4 ∷ [])) ≡ restore_outcome 20 0 no_head (memory (4 ∷ []))
unfolding read_all restore_of restored lent_short
restored_short = refl

-- row 19: the `buf` line is missing, the line after the last; and a bad third line
pub restored_bad : (restore_of (set4_l ++ (wgt_l ++ (cnt1_l ++ (ten dev_l ++ (inp_l ++ (pnt_l ++ tim_l)))))) (0 ∷ []) (memory []) ≡ restore_outcome 19 17 no_head (memory []))
    × (restore_of (set4_l ++ (wgt_l ++ inp_l)) (0 ∷ []) (memory []) ≡ restore_outcome 19 3 no_head (memory []))
unfolding read_all restore_of restored
restored_bad = (refl, refl)

-- row 27, before 20: another code, and codes in another number
pub restored_other : (restore_of waiting_text (1 ∷ []) (memory (4 ∷ [])) ≡ restore_outcome 27 0 no_head (memory (4 ∷ []))) ×
    (restore_of waiting_text [] (memory (4 ∷ [])) ≡ restore_outcome 27 0 no_head (memory (4 ∷ [])))
unfolding read_all restore_of restored
restored_other = (refl, refl)
