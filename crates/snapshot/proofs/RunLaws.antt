-- Lines of one kind, one after the other: what is read of the first i of them, and the three ways on.
use Prim.Native.Nat.{ℕ, suc, ◌+◌, ◌-◌, ◌*◌, ◌≤◌, ◌<◌}
use native.Mathlib.Omega.{arith}
use native.Mathlib.Numerals.{add-one}
use native.Mathlib.Nat.{mul-le-mul, mul-le-mul_right, add-mul, one-mul, zero-mul}
use mathlib.Core.Path.{◌≡◌, refl, sym, ap, ◌∙◌}
use mathlib.Core.List.{List, [], ◌∷◌, ◌++◌, append_assoc, append-nil}
use mathlib.Core.Option.{Option, none, some}
use lib.ListN.{length, take, set, length-append, length-set}
use lib.Seq.{take_at, take_all, length-take-le, take-suc-set}
use lib.Ieee.{Float, binary64}
use borrow.Rule.Slice.PartMut.{mid_of, post_of, put_mid, same_len_mid, mid_len}
use Rattle.trcf.specs.Preprocessor.{Reading}
use Rattle.std.specs.Prelude.{Result, Ok, Err, IsErrAnd}
use Rattle.snapshot.specs.declared.head.BadLine.{BadLine}
use Rattle.snapshot.specs.Read.{as_float}
use Rattle.snapshot.specs.Steps.Judge.{list_line, buf_by}
use Rattle.snapshot.specs.Steps.Runs.{map_ran, ran_by, devs, bufs, time_of, initial_lists, initial_of, Ran, ran, broke, one_line, after_lines, then_lines}
use Rattle.snapshot.specs.Steps.Runs.{front, many, flat, reading_values, reading_times, dev_fields, no_carry}

abbrev pub fronts : {A : Type 0} → List A → Ran (List A) → Ran (List A)
fronts u (ran l z) = ran (u ++ l) z
fronts u (broke m) = broke m

module _ {A : Type 0} where
  fronts_none : (r : Ran (List A)) → r ≡ after_lines 0 (fronts [] r)
  fronts_none (ran l z) = refl
  fronts_none (broke m) = let e : m ≡ 0 + m = omega arith in ap broke e

  fronts_one : (u : List A) (a : A) (i : ℕ) (r : Ran (List A))
      → after_lines i (fronts u (after_lines 1 (front a r))) ≡ after_lines (i + 1) (fronts (u ++ (a ∷ [])) r)
  fronts_one u a i (ran l z) = ap (λ (v : List A). ran v z) (sym (append_assoc u (a ∷ []) l))
  fronts_one u a i (broke m) = let e : i + (1 + m) ≡ i + 1 + m = omega arith in ap broke e

  module _ (p : ℕ → List ℕ → Option (A × List ℕ)) (f : A → ℕ) where
    -- the first i lines of n gave u; the next is read with q, from z on
    pub record Ahead (n : ℕ) (l : List ℕ) (u : List A) (i q : ℕ) (z : List ℕ) : Type 0 where
      pub some_left_lem : i ≤ n
      pub so : many p f 0 n l ≡ after_lines i (fronts u (many p f q (n - i) z))

    pub ahead_none : (n : ℕ) (l : List ℕ) → Ahead n l [] 0 0 l
    ahead_none n l =
        let e : n ≡ n - 0 = omega arith in
        record {
          some_left_lem = omega arith;
          so = fronts_none (many p f 0 n l) ∙ ap (λ (m : ℕ). after_lines 0 (fronts [] (many p f 0 m l))) e;
        }

    module _ (n : ℕ) (l : List ℕ) (u : List A) (i q : ℕ) (z : List ℕ) (s : Ahead n l u i q z) where
      turn : i < n → many p f q (n - i) z ≡ then_lines 1 (one_line (p q z)) (λ a y. front a (many p f (f a) (n - (i + 1)) y))
      turn h = let e : n - i ≡ suc (n - (i + 1)) = omega (arith, h) in ap (λ (m : ℕ). many p f q m z) e

      pub ahead_step : i < n → (a : A) (y : List ℕ) → some (a, y) ≡ p q z → Ahead n l (u ++ (a ∷ [])) (i + 1) (f a) y
      ahead_step h a y e =
          let r : many p f q (n - i) z ≡ after_lines 1 (front a (many p f (f a) (n - (i + 1)) y)) =
          turn h ∙ ap (λ (o : Option (A × List ℕ)). then_lines 1 (one_line o) (λ b x. front b (many p f (f b) (n - (i + 1)) x))) (sym e) in
          record {
            some_left_lem = omega (arith, h);
            so = s.so ∙ ap (λ (w : Ran (List A)). after_lines i (fronts u w)) r ∙ fronts_one u a i (many p f (f a) (n - (i + 1)) y);
          }

      pub ahead_stop : i < n → none ≡ p q z → many p f 0 n l ≡ broke (i + 1)
      ahead_stop h e =
          let r : many p f q (n - i) z ≡ broke 1 =
          turn h ∙ ap (λ (o : Option (A × List ℕ)). then_lines 1 (one_line o) (λ b x. front b (many p f (f b) (n - (i + 1)) x))) (sym e) in
          s.so ∙ ap (λ (w : Ran (List A)). after_lines i (fronts u w)) r

      pub ahead_done : i ≡ n → many p f 0 n l ≡ ran u z
      ahead_done h =
          let m : n - i ≡ 0 = omega (arith, h) in
          s.so ∙ ap (λ (k : ℕ). after_lines i (fronts u (many p f q k z))) m ∙ ap (λ (v : List A). ran v z) (append-nil u)

-- ---- what is kept of them

pub flat_append : (a b : List (List Float)) → flat (a ++ b) ≡ flat a ++ flat b
flat_append [] b = refl
flat_append (v ∷ a) b = ap (λ (w : List Float). v ++ w) (flat_append a b) ∙ sym (append_assoc v (flat a) (flat b))

pub values_append : (a b : List Reading) → reading_values (a ++ b) ≡ reading_values a ++ reading_values b
values_append [] b = refl
values_append (r ∷ a) b = ap (λ (w : List Float). r.value ++ w) (values_append a b) ∙ sym (append_assoc r.value (reading_values a) (reading_values b))

pub times_append : (a b : List Reading) → reading_times (a ++ b) ≡ reading_times a ++ reading_times b
times_append [] b = refl
times_append (r ∷ a) b = ap (λ (w : List ℕ). r.time ∷ w) (times_append a b)

block_next : (w i : ℕ) → (i + 1) * w ≡ i * w + w
block_next w i = add-mul i 1 w ∙ ap (λ (m : ℕ). i * w + m) (one-mul w)

-- what `?` hands on of lines that broke
pub broken : {A : Type 0} (r : Result ℕ BadLine) (b : BadLine) (a : A) (t : List ℕ) (q : Ran A) → IsErrAnd r (λ d. d ≡ b) → broke b.line ≡ q → ran_by r a t ≡ q
broken (Ok n) b a t q e h = absurd e
broken (Err d) b a t q e h = ap (λ (x : BadLine). broke x.line) e ∙ h

-- ---- n blocks of w numbers in a list: the i-th is lent, and comes back

module _ {A : Type 0} (w i n : ℕ) (out : List A) (long : length out ≡ n * w) (h : i < n) where
  pub block_room : i * w + w ≤ length out
  block_room =
      let a : (i + 1) * w ≤ n * w = mul-le-mul_right w (omega (arith, h)) in
      let b : (i + 1) * w ≡ i * w + w = block_next w i in
      omega (arith, a, b, long)

  pub block_part : length (mid_of (i * w) (i * w + w - i * w) out) ≡ w
  block_part = let e : i * w + w - i * w ≡ w = omega arith in mid_len (i * w) (i * w + w) out block_room ∙ e

  module _ (v : List A) (e : length v ≡ length (mid_of (i * w) (i * w + w - i * w) out)) where
    pub block_long : length (put_mid (i * w) (i * w + w - i * w) out v) ≡ n * w
    block_long = same_len_mid (i * w) (i * w + w - i * w) out v e ∙ long

    pub block_kept : take ((i + 1) * w) (put_mid (i * w) (i * w + w - i * w) out v) ≡ take (i * w) out ++ v
    block_kept =
        let r : List A = post_of (i * w) (i * w + w - i * w) out in
        let a : length (take (i * w) out) ≡ i * w = length-take-le (i * w) out (omega (arith, block_room)) in
        let c : length (take (i * w) out ++ v) ≡ (i + 1) * w = length-append (take (i * w) out) v ∙ omega (arith, a, e, block_part, block_next w i) in
        ap (λ (z : List A). take ((i + 1) * w) z) (sym (append_assoc (take (i * w) out) v r)) ∙ take_at (take (i * w) out ++ v) r ((i + 1) * w) c

-- ---- the `dev` lines

pub record Devs (n : ℕ) (l : List ℕ) (out : List Float) (i : ℕ) (z : List ℕ) : Type 0 where
  pub read : List (List Float)
  pub ahead : Ahead dev_fields no_carry n l read i 0 z
  pub kept : take (i * 3) out ≡ flat read
  pub long : length out ≡ n * 3
  pub few : n ≤ 2000

pub devs_none : (n : ℕ) (l : List ℕ) (out : List Float) → length out ≡ n * 3 → n ≤ 2000 → Devs n l out 0 l
devs_none n l out e h = record { read = []; ahead = ahead_none dev_fields no_carry n l; kept = refl; long = e; few = h }

module _ (n : ℕ) (l : List ℕ) (out : List Float) (i : ℕ) (z : List ℕ) (s : Devs n l out i z) where
  -- the line as it is read into the part that is lent
  abbrev Line : Option (List Float × List ℕ)
  Line = list_line (as_float binary64) 100 101 118 (length (mid_of (i * 3) (i * 3 + 3 - i * 3) out)) z

  line_is : i < n → Line ≡ dev_fields 0 z
  line_is h = ap (λ (m : ℕ). list_line (as_float binary64) 100 101 118 m z) (block_part 3 i n out s.long h)

  pub devs_step : i < n → (v : List Float) (y : List ℕ) → length v ≡ length (mid_of (i * 3) (i * 3 + 3 - i * 3) out) → some (v, y) ≡ Line
      → Devs n l (put_mid (i * 3) (i * 3 + 3 - i * 3) out v) (i + 1) y
  devs_step h v y e q =
      record {
        read = s.read ++ (v ∷ []);
        ahead = ahead_step dev_fields no_carry n l s.read i 0 z s.ahead h v y (q ∙ line_is h);
        kept = block_kept 3 i n out s.long h v e ∙ ap (λ (u : List Float). u ++ v) s.kept
            ∙ sym (flat_append s.read (v ∷ []) ∙ ap (λ (u : List Float). flat s.read ++ u) (append-nil v));
        long = block_long 3 i n out s.long h v e;
        few = s.few;
      }

  pub devs_stop : i < n → none ≡ Line → broke (i + 1) ≡ devs n l
  unfolding devs
  devs_stop h q = ap (λ (r : Ran (List (List Float))). map_ran flat r) (sym (ahead_stop dev_fields no_carry n l s.read i 0 z s.ahead h (q ∙ line_is h)))

  pub devs_done : i ≡ n → ran out z ≡ devs n l
  unfolding devs
  devs_done h =
      let a : length out ≤ i * 3 = omega (arith, s.long, h) in
      let e : out ≡ flat s.read = sym (take_all (i * 3) out a) ∙ s.kept in
      ap (λ (u : List Float). ran u z) e ∙ ap (λ (r : Ran (List (List Float))). map_ran flat r) (sym (ahead_done dev_fields no_carry n l s.read i 0 z s.ahead h))

-- ---- the `buf` lines

pub record Unkept (d n : ℕ) (l : List ℕ) (i q : ℕ) (z : List ℕ) : Type 0 where
  pub read : List Reading
  pub ahead : Ahead (buf_by d) time_of n l read i q z
  pub few : n ≤ 2000
  pub narrow : d ≤ 16

pub unkept_none : (d n : ℕ) (l : List ℕ) → n ≤ 2000 → d ≤ 16 → Unkept d n l 0 0 l
unkept_none d n l h k = record { read = []; ahead = ahead_none (buf_by d) time_of n l; few = h; narrow = k }

module _ (d n : ℕ) (l : List ℕ) (i q : ℕ) (z : List ℕ) (s : Unkept d n l i q z) where
  pub unkept_step : i < n → (m : ℕ) (r : Reading) (y : List ℕ) → m ≡ d → some (r, y) ≡ buf_by m q z → Unkept d n l (i + 1) r.time y
  unkept_step h m r y e k =
      record {
        read = s.read ++ (r ∷ []);
        ahead = ahead_step (buf_by d) time_of n l s.read i q z s.ahead h r y (k ∙ ap (λ (w : ℕ). buf_by w q z) e);
        few = s.few;
        narrow = s.narrow;
      }

  pub unkept_stop : i < n → (m : ℕ) → m ≡ d → none ≡ buf_by m q z → broke (i + 1) ≡ bufs d n l
  unfolding bufs
  unkept_stop h m e k =
      ap (λ (r : Ran (List Reading)). map_ran initial_of r)
      (sym (ahead_stop (buf_by d) time_of n l s.read i q z s.ahead h (k ∙ ap (λ (w : ℕ). buf_by w q z) e)))

  pub unkept_done : i ≡ n → ran (initial_of s.read) z ≡ bufs d n l
  unfolding bufs
  unkept_done h = ap (λ (r : Ran (List Reading)). map_ran initial_of r) (sym (ahead_done (buf_by d) time_of n l s.read i q z s.ahead h))

pub record Bufs (d n : ℕ) (l : List ℕ) (values : List Float) (times : List ℕ) (i q : ℕ) (z : List ℕ) : Type 0 where
  pub so : Unkept d n l i q z
  pub kept : take (i * d) values ≡ reading_values so.read
  pub kept_times : take i times ≡ reading_times so.read
  pub long : length values ≡ n * d
  pub long_times : length times ≡ n

pub bufs_none : (d n : ℕ) (l : List ℕ) (values : List Float) (times : List ℕ) → length values ≡ n * d → length times ≡ n → n ≤ 2000 → d ≤ 16 → Bufs d n l values times 0 0 l
unfolding unkept_none
bufs_none d n l values times e f h k =
    record { so = unkept_none d n l h k; kept = none_of (0 * d) values (zero-mul d); kept_times = refl; long = e; long_times = f }
  where
    none_of : (m : ℕ) (v : List Float) → m ≡ 0 → take m v ≡ []
    none_of m v e = ap (λ (k : ℕ). take k v) e

module _ (d n : ℕ) (l : List ℕ) (values : List Float) (times : List ℕ) (i q : ℕ) (z : List ℕ) (s : Bufs d n l values times i q z) where
  abbrev Part : List Float
  Part = mid_of (i * d) (i * d + d - i * d) values

  pub bufs_few : i < n → i * d + d ≤ 32000
  bufs_few h =
      let a : n * d ≤ 2000 * 16 = mul-le-mul s.so.few s.so.narrow in
      omega (arith, block_room d i n values s.long h, s.long, a)

  pub bufs_step : i < n → (r : Reading) (y : List ℕ) → length r.value ≡ length Part → some (r, y) ≡ buf_by (length Part) q z
      → Bufs d n l (put_mid (i * d) (i * d + d - i * d) values r.value) (set times i r.time) (i + 1) r.time y
  unfolding unkept_step
  bufs_step h r y e k =
      record {
        so = unkept_step d n l i q z s.so h (length Part) r y (block_part d i n values s.long h) k;
        kept = block_kept d i n values s.long h r.value e ∙ ap (λ (u : List Float). u ++ r.value) s.kept
            ∙ sym (values_append s.so.read (r ∷ []) ∙ ap (λ (u : List Float). reading_values s.so.read ++ u) (append-nil r.value));
        kept_times = ap (λ (m : ℕ). take m (set times i r.time)) (add-one i) ∙ take-suc-set times i r.time (omega (arith, s.long_times, h))
            ∙ ap (λ (u : List ℕ). u ++ (r.time ∷ [])) s.kept_times ∙ sym (times_append s.so.read (r ∷ []));
        long = block_long d i n values s.long h r.value e;
        long_times = length-set times i r.time ∙ s.long_times;
      }

  pub bufs_stop : i < n → none ≡ buf_by (length Part) q z → broke (i + 1) ≡ bufs d n l
  bufs_stop h k = unkept_stop d n l i q z s.so h (length Part) (block_part d i n values s.long h) k

  pub bufs_done : i ≡ n → ran (initial_lists values times) z ≡ bufs d n l
  bufs_done h =
      let a : length values ≤ i * d = at_most (s.long ∙ ap (λ (m : ℕ). m * d) (sym h)) in
      let v : values ≡ reading_values s.so.read = sym (take_all (i * d) values a) ∙ s.kept in
      let t : times ≡ reading_times s.so.read = sym (take_all i times (omega (arith, s.long_times, h))) ∙ s.kept_times in
      ap (λ (u : List Float). ran (initial_lists u times) z) v ∙ ap (λ (u : List ℕ). ran (initial_lists (reading_values s.so.read) u) z) t ∙ unkept_done d n l i q z s.so h
    where
      at_most : length values ≡ i * d → length values ≤ i * d
      at_most e = omega (arith, e)
