-- What feeding one reading after the other makes are the history's statistics: a `feed` that does not feed each statistic its scores is refused here. Assumes nothing.
use Prim.Native.Nat.{ℕ, zero, suc, ◌+◌, ◌-◌, ◌*◌, ◌≤◌, ◌<◌}
use mathlib.Core.Path.{◌≡◌, refl, sym, ap, ◌∙◌}
use mathlib.Core.Bool.{Bool, true, false}
use mathlib.Core.List.{List, [], ◌∷◌, ◌++◌, map, append-nil}
use native.Mathlib.Omega.{arith}
use native.Mathlib.Numerals.{add-one}
use borrow.Author.Tests.{ltb-true, ltb-false}
use lib.Dec.{ltb}
use lib.IntN.{pos}
use lib.ListN.{length, get_or, take, replicate, length-replicate, get_or-replicate}
use lib.Seq.{take_all}
use lib.Ieee.{Float, nan, binary32, binary64, sub, of_int}
use Rattle.common.specs.declared.deviation.Deviation.{Deviation}
use Rattle.common.specs.Deviation.{zero64, statistic, empty_with, step_of, mean_of, deviation_of}
use Rattle.trcf.specs.declared.statistics.Deviations.{Deviations}
use Rattle.trcf.specs.Transformer.{slow_decay, statistic_at, put_statistic, fed, deviations_at, put_deviations, fed_at, channels_fed, updated}
use Rattle.trcf.specs.Settings.{Settings}
use Rattle.trcf.specs.Preprocessor.{statistics_length, time_fed, feed}
use Rattle.trcf.proofs.TransformerLaws.{put_statistic_length, channels_fed_length}
use Rattle.restart.specs.Statistics.{Fed, fold_from, course_from, values_at, differences_at, fed_times, time_differences, first, second, third, fourth, fifth, dev_of, lines_to, statistics_from}
use Rattle.restart.proofs.Lists.{feed_each}
use Rattle.restart.proofs.FeedLaws.{feed_length}
use Rattle.restart.proofs.Places.{put_same, put_other, take_line, take_lines, lines_same}

-- ---- five at a time

pub record Away (p b w : ℕ) : Type 0 where
  pub from0 : p ≡ b → ⊥
  pub from1 : p ≡ b + w → ⊥
  pub from2 : p ≡ b + 2 * w → ⊥
  pub from3 : p ≡ b + 3 * w → ⊥
  pub from4 : p ≡ b + 4 * w → ⊥

below : (p b w : ℕ) → p < b → Away p b w
below p b w h = record { from0 = λ q. omega arith; from1 = λ q. omega arith; from2 = λ q. omega arith; from3 = λ q. omega arith; from4 = λ q. omega arith }

above : (p b w : ℕ) → b + 4 * w < p → Away p b w
above p b w h = record { from0 = λ q. omega arith; from1 = λ q. omega arith; from2 = λ q. omega arith; from3 = λ q. omega arith; from4 = λ q. omega arith }

-- the numbers of five statistics, with the discounts and the count that a reader names
abbrev named : Float → ℕ → Deviation → Deviation
named dec c t = statistic dec t.weight t.sum t.sum_squared c

abbrev renamed : Float → ℕ → Deviations → Deviations
renamed decay c s =
    record {
      value = named decay c s.value;
      difference = named decay c s.difference;
      deviation = named (slow_decay decay) c s.deviation;
      difference_mean = named (slow_decay decay) c s.difference_mean;
      difference_deviation = named (slow_decay decay) c s.difference_deviation;
    }

module _ (l : List Float) (b w : ℕ) (s : Deviations) where
  abbrev put1 : List Float
  put1 = put_statistic l b s.value

  abbrev put2 : List Float
  put2 = put_statistic put1 (b + w) s.difference

  abbrev put3 : List Float
  put3 = put_statistic put2 (b + 2 * w) s.deviation

  abbrev put4 : List Float
  put4 = put_statistic put3 (b + 3 * w) s.difference_mean

  puts_other : (p : ℕ) (dec : Float) (c : ℕ) → Away p b w → statistic_at (put_deviations l b w s) p dec c ≡ statistic_at l p dec c
  unfolding put_deviations
  puts_other p dec c a =
      put_other put4 (b + 4 * w) s.difference_deviation dec c p a.from4
      ∙ put_other put3 (b + 3 * w) s.difference_mean dec c p a.from3
      ∙ put_other put2 (b + 2 * w) s.deviation dec c p a.from2
      ∙ put_other put1 (b + w) s.difference dec c p a.from1
      ∙ put_other l b s.value dec c p a.from0

  module _ (apart : 0 < w) (room : 3 * (b + 4 * w) + 2 < length l) (decay : Float) (c : ℕ) where
    puts_same : deviations_at (put_deviations l b w s) b w decay c
        ≡ renamed decay c s
    unfolding deviations_at put_deviations
    puts_same =
        let l1 : length put1 ≡ length l = put_statistic_length l b s.value in
        let l2 : length put2 ≡ length l = put_statistic_length put1 (b + w) s.difference ∙ l1 in
        let l3 : length put3 ≡ length l = put_statistic_length put2 (b + 2 * w) s.deviation ∙ l2 in
        let l4 : length put4 ≡ length l = put_statistic_length put3 (b + 3 * w) s.difference_mean ∙ l3 in
        let v = put_other put4 (b + 4 * w) s.difference_deviation decay c b (λ e. omega arith)
        ∙ put_other put3 (b + 3 * w) s.difference_mean decay c b (λ e. omega arith)
        ∙ put_other put2 (b + 2 * w) s.deviation decay c b (λ e. omega arith)
        ∙ put_other put1 (b + w) s.difference decay c b (λ e. omega arith)
        ∙ put_same l b s.value decay c (omega arith) in
        let d = put_other put4 (b + 4 * w) s.difference_deviation decay c (b + w) (λ e. omega arith)
        ∙ put_other put3 (b + 3 * w) s.difference_mean decay c (b + w) (λ e. omega arith)
        ∙ put_other put2 (b + 2 * w) s.deviation decay c (b + w) (λ e. omega arith)
        ∙ put_same put1 (b + w) s.difference decay c (omega arith) in
        let t = put_other put4 (b + 4 * w) s.difference_deviation (slow_decay decay) c (b + 2 * w) (λ e. omega arith)
        ∙ put_other put3 (b + 3 * w) s.difference_mean (slow_decay decay) c (b + 2 * w) (λ e. omega arith)
        ∙ put_same put2 (b + 2 * w) s.deviation (slow_decay decay) c (omega arith) in
        let m = put_other put4 (b + 4 * w) s.difference_deviation (slow_decay decay) c (b + 3 * w) (λ e. omega arith)
        ∙ put_same put3 (b + 3 * w) s.difference_mean (slow_decay decay) c (omega arith) in
        let q = put_same put4 (b + 4 * w) s.difference_deviation (slow_decay decay) c (omega arith) in
        λ j. record { value = v j; difference = d j; deviation = t j; difference_mean = m j; difference_deviation = q j }

module _ (l : List Float) (b w : ℕ) (decay : Float) (c : ℕ) (x dx : Float) where
  fed_at_other : (p : ℕ) (dec : Float) (n : ℕ) → Away p b w → statistic_at (fed_at l b w decay c x dx) p dec n ≡ statistic_at l p dec n
  unfolding fed_at
  fed_at_other p dec n a = puts_other l b w (fed (deviations_at l b w decay c) x dx) p dec n a

  fed_named : renamed decay (c + 1) (fed (deviations_at l b w decay c) x dx) ≡ fed (deviations_at l b w decay c) x dx
  unfolding fed deviations_at statistic_at step_of
  fed_named = refl

  fed_at_same : 0 < w → 3 * (b + 4 * w) + 2 < length l → deviations_at (fed_at l b w decay c x dx) b w decay (suc c) ≡ fed (deviations_at l b w decay c) x dx
  unfolding fed_at
  fed_at_same apart room =
      ap (λ (n : ℕ). deviations_at (put_deviations l b w (fed (deviations_at l b w decay c) x dx)) b w decay n) (sym (add-one c))
      ∙ puts_same l b w (fed (deviations_at l b w decay c) x dx) apart room decay (c + 1)
      ∙ fed_named

-- ---- all channels

module _ (l : List Float) (d : ℕ) (decay : Float) (c : ℕ) (x y : List Float) where
  abbrev after : ℕ → List Float
  after n = channels_fed n l d decay c x y

  channels_other : (n p : ℕ) (dec : Float) (m : ℕ) → ((i : ℕ) → i < n → Away p i d) → statistic_at (after n) p dec m ≡ statistic_at l p dec m
  unfolding channels_fed
  channels_other zero p dec m a = refl
  channels_other (suc n) p dec m a =
      fed_at_other (after n) n d decay c (get_or x n nan) (sub binary32 (get_or x n nan) (get_or y n nan)) p dec m (a n (omega arith))
      ∙ channels_other n p dec m (λ i h. a i (omega arith))

  -- the places of channel i are not those of channel n
  abbrev Apart : ℕ → ℕ → Type 0
  Apart i n = Away i n d × Away (i + d) n d × Away (i + 2 * d) n d × Away (i + 3 * d) n d × Away (i + 4 * d) n d

  apart : (i n : ℕ) → i < d → n < d → (i ≡ n → ⊥) → Apart i n
  apart i n hi hn e = (
    record { from0 = e; from1 = λ q. omega arith; from2 = λ q. omega arith; from3 = λ q. omega arith; from4 = λ q. omega arith },
    record { from0 = λ q. omega arith; from1 = λ q. e (omega arith); from2 = λ q. omega arith; from3 = λ q. omega arith; from4 = λ q. omega arith },
    record { from0 = λ q. omega arith; from1 = λ q. omega arith; from2 = λ q. e (omega arith); from3 = λ q. omega arith; from4 = λ q. omega arith },
    record { from0 = λ q. omega arith; from1 = λ q. omega arith; from2 = λ q. omega arith; from3 = λ q. e (omega arith); from4 = λ q. omega arith },
    record { from0 = λ q. omega arith; from1 = λ q. omega arith; from2 = λ q. omega arith; from3 = λ q. omega arith; from4 = λ q. e (omega arith) },
  )

  module _ (room : 3 * (5 * d) ≤ length l) where
    -- before its turn
    channel_waits : (n i m : ℕ) → n ≤ i → i < d → deviations_at (after n) i d decay m ≡ deviations_at l i d decay m
    unfolding deviations_at
    channel_waits n i m h k =
        let a : (j : ℕ) → j < n → Apart i j = λ j q. apart i j k (omega arith) (λ e. omega arith) in
        λ t. record {
          value = channels_other n i decay m (λ j q. (a j q).0) t;
          difference = channels_other n (i + d) decay m (λ j q. (a j q).1) t;
          deviation = channels_other n (i + 2 * d) (slow_decay decay) m (λ j q. (a j q).2) t;
          difference_mean = channels_other n (i + 3 * d) (slow_decay decay) m (λ j q. (a j q).3) t;
          difference_deviation = channels_other n (i + 4 * d) (slow_decay decay) m (λ j q. (a j q).4) t;
        }

    -- after it
    channel_stays : (n i m : ℕ) (s dx : Float) → n < d → i < d → (i ≡ n → ⊥)
        → deviations_at (fed_at (after n) n d decay c s dx) i d decay m ≡ deviations_at (after n) i d decay m
    unfolding deviations_at
    channel_stays n i m s dx hn hi e =
        let a : Apart i n = apart i n hi hn e in
        λ t. record {
          value = fed_at_other (after n) n d decay c s dx i decay m a.0 t;
          difference = fed_at_other (after n) n d decay c s dx (i + d) decay m a.1 t;
          deviation = fed_at_other (after n) n d decay c s dx (i + 2 * d) (slow_decay decay) m a.2 t;
          difference_mean = fed_at_other (after n) n d decay c s dx (i + 3 * d) (slow_decay decay) m a.3 t;
          difference_deviation = fed_at_other (after n) n d decay c s dx (i + 4 * d) (slow_decay decay) m a.4 t;
        }

    abbrev channel_fed : ℕ → Deviations
    channel_fed i = fed (deviations_at l i d decay c) (get_or x i nan) (sub binary32 (get_or x i nan) (get_or y i nan))

    channel_fed_lem : (n i : ℕ) → i < n → n ≤ d → deviations_at (after n) i d decay (suc c) ≡ channel_fed i
    unfolding channels_fed
    channel_fed_lem zero i h k = absurd (omega arith)
    channel_fed_lem (suc n) i h k = go (λ q. channel_fed_lem n i q (omega arith)) (ltb i n) refl
      where
        go : (i < n → deviations_at (after n) i d decay (suc c) ≡ channel_fed i) → (b : Bool) → ltb i n ≡ b → deviations_at (after (suc n)) i d decay (suc c) ≡ channel_fed i
        go r true e =
            let q : i < n = ltb-true i n e in
            channel_stays n i (suc c) _ _ (omega arith) (omega arith) (λ z. omega arith) ∙ r q
        go r false e =
            let q : n ≤ i = ltb-false i n e in
            let z : i ≡ n = omega arith in
            rw z (fed_at_same (after n) n d decay c _ _ (omega arith) (rw (channels_fed_length n l d decay c x y) (omega arith))
            ∙ ap (λ (s : Deviations). fed s (get_or x n nan) (sub binary32 (get_or x n nan) (get_or y n nan))) (channel_waits n n c (omega arith) (omega arith)))

-- ---- one reading

-- the scores of a reading
abbrev value_at : ℕ → Fed → Float
value_at i p = get_or p.now.value i nan

abbrev difference_at : ℕ → Fed → Float
difference_at i p = sub binary32 (get_or p.now.value i nan) (get_or p.before.value i nan)

abbrev time_of : Fed → Float
time_of p = of_int binary64 (pos p.now.time)

abbrev time_difference : Fed → Float
time_difference p = of_int binary64 (pos (p.now.time - p.before.time))

module _ (s : Settings) (c : ℕ) (st : List Float) (p : Fed) (long : length st ≡ statistics_length s) where
  abbrev all_channels : List Float
  all_channels = channels_fed s.d st s.d s.decay c p.now.value p.before.value

  module _ (i : ℕ) (h : i < s.d) where
    -- the time's places come after
    channel_past : deviations_at (fed_at all_channels (5 * s.d) 1 s.decay c (time_of p) (time_difference p)) i s.d s.decay (suc c) ≡ deviations_at all_channels i s.d s.decay (suc c)
    unfolding deviations_at
    channel_past =
        let o = fed_at_other all_channels (5 * s.d) 1 s.decay c (time_of p) (time_difference p) in
        λ t. record {
          value = o i s.decay (suc c) (below i (5 * s.d) 1 (omega arith)) t;
          difference = o (i + s.d) s.decay (suc c) (below (i + s.d) (5 * s.d) 1 (omega arith)) t;
          deviation = o (i + 2 * s.d) (slow_decay s.decay) (suc c) (below (i + 2 * s.d) (5 * s.d) 1 (omega arith)) t;
          difference_mean = o (i + 3 * s.d) (slow_decay s.decay) (suc c) (below (i + 3 * s.d) (5 * s.d) 1 (omega arith)) t;
          difference_deviation = o (i + 4 * s.d) (slow_decay s.decay) (suc c) (below (i + 4 * s.d) (5 * s.d) 1 (omega arith)) t;
        }

    feed_channel : deviations_at (feed s c st p.before p.now) i s.d s.decay (suc c) ≡ fed (deviations_at st i s.d s.decay c) (value_at i p) (difference_at i p)
    unfolding feed time_fed updated
    feed_channel = channel_past ∙ channel_fed_lem st s.d s.decay c p.now.value p.before.value (omega arith) s.d i h (omega arith)

  time_waits : deviations_at all_channels (5 * s.d) 1 s.decay c ≡ deviations_at st (5 * s.d) 1 s.decay c
  unfolding deviations_at
  time_waits =
      let o = channels_other st s.d s.decay c p.now.value p.before.value s.d in
      λ t. record {
        value = o (5 * s.d) s.decay c (λ i h. above (5 * s.d) i s.d (omega arith)) t;
        difference = o (5 * s.d + 1) s.decay c (λ i h. above (5 * s.d + 1) i s.d (omega arith)) t;
        deviation = o (5 * s.d + 2) (slow_decay s.decay) c (λ i h. above (5 * s.d + 2) i s.d (omega arith)) t;
        difference_mean = o (5 * s.d + 3) (slow_decay s.decay) c (λ i h. above (5 * s.d + 3) i s.d (omega arith)) t;
        difference_deviation = o (5 * s.d + 4) (slow_decay s.decay) c (λ i h. above (5 * s.d + 4) i s.d (omega arith)) t;
      }

  feed_time : deviations_at (feed s c st p.before p.now) (5 * s.d) 1 s.decay (suc c) ≡ fed (deviations_at st (5 * s.d) 1 s.decay c) (time_of p) (time_difference p)
  unfolding feed time_fed updated
  feed_time =
      fed_at_same all_channels (5 * s.d) 1 s.decay c (time_of p) (time_difference p) (omega arith)
      (rw (channels_fed_length s.d st s.d s.decay c p.now.value p.before.value) (omega arith))
      ∙ ap (λ (e : Deviations). fed e (time_of p) (time_difference p)) time_waits

-- ---- all readings

abbrev count_after : ℕ → List Fed → ℕ
count_after c [] = c
count_after c (p ∷ ps) = count_after (suc c) ps

-- five statistics fed the scores that f and g read off each reading
abbrev fed_all : Deviations → (Fed → Float) → (Fed → Float) → List Fed → Deviations
fed_all e f g [] = e
fed_all e f g (p ∷ ps) = fed_all (fed e (f p) (g p)) f g ps

-- each of the five is its own fold
abbrev folded : Deviations → List Float → List Float → Deviations
folded e xs ds =
    record {
      value = fold_from e.value xs;
      difference = fold_from e.difference ds;
      deviation = fold_from e.deviation (map deviation_of (course_from e.value xs));
      difference_mean = fold_from e.difference_mean (map mean_of (course_from e.difference ds));
      difference_deviation = fold_from e.difference_deviation (map deviation_of (course_from e.difference ds));
    }

fed_all_folds : (e : Deviations) (f g : Fed → Float) (ps : List Fed) → fed_all e f g ps ≡ folded e (map f ps) (map g ps)
unfolding fed
fed_all_folds e f g [] = refl
fed_all_folds e f g (p ∷ ps) = fed_all_folds (fed e (f p) (g p)) f g ps

module _ (s : Settings) where
  each_length : (c : ℕ) (st : List Float) (ps : List Fed) → length (feed_each s c st ps) ≡ length st
  each_length c st [] = refl
  each_length c st (p ∷ ps) = each_length (suc c) (feed s c st p.before p.now) ps ∙ feed_length s c st p.before p.now

  each_channel : (i : ℕ) → i < s.d → (c : ℕ) (st : List Float) (ps : List Fed) → length st ≡ statistics_length s
      → deviations_at (feed_each s c st ps) i s.d s.decay (count_after c ps) ≡ fed_all (deviations_at st i s.d s.decay c) (value_at i) (difference_at i) ps
  each_channel i h c st [] e = refl
  each_channel i h c st (p ∷ ps) e =
      each_channel i h (suc c) (feed s c st p.before p.now) ps (feed_length s c st p.before p.now ∙ e)
      ∙ ap (λ (x : Deviations). fed_all x (value_at i) (difference_at i) ps) (feed_channel s c st p e i h)

  each_time : (c : ℕ) (st : List Float) (ps : List Fed) → length st ≡ statistics_length s
      → deviations_at (feed_each s c st ps) (5 * s.d) 1 s.decay (count_after c ps) ≡ fed_all (deviations_at st (5 * s.d) 1 s.decay c) time_of time_difference ps
  each_time c st [] e = refl
  each_time c st (p ∷ ps) e =
      each_time (suc c) (feed s c st p.before p.now) ps (feed_length s c st p.before p.now ∙ e)
      ∙ ap (λ (x : Deviations). fed_all x time_of time_difference ps) (feed_time s c st p e)

-- ---- from empty

abbrev empties : Float → Deviations
empties decay =
    record {
      value = empty_with decay;
      difference = empty_with decay;
      deviation = empty_with (slow_decay decay);
      difference_mean = empty_with (slow_decay decay);
      difference_deviation = empty_with (slow_decay decay);
    }

at_empty : (n p : ℕ) (dec : Float) → 3 * p + 2 < n → statistic_at (replicate n zero64) p dec 0 ≡ empty_with dec
unfolding statistic_at
at_empty n p dec h =
    λ j. statistic dec (get_or-replicate n (3 * p) zero64 nan (omega arith) j) (get_or-replicate n (3 * p + 1) zero64 nan (omega arith) j) (get_or-replicate n (3 * p + 2) zero64 nan h j) 0

five_empty : (n b w : ℕ) (decay : Float) → 3 * (b + 4 * w) + 2 < n → deviations_at (replicate n zero64) b w decay 0 ≡ empties decay
unfolding deviations_at
five_empty n b w decay h =
    λ j. record {
      value = at_empty n b decay (omega arith) j;
      difference = at_empty n (b + w) decay (omega arith) j;
      deviation = at_empty n (b + 2 * w) (slow_decay decay) (omega arith) j;
      difference_mean = at_empty n (b + 3 * w) (slow_decay decay) (omega arith) j;
      difference_deviation = at_empty n (b + 4 * w) (slow_decay decay) (omega arith) j;
    }

module _ (s : Settings) (ps : List Fed) where
  abbrev fed_list : List Float
  fed_list = feed_each s 0 (replicate (statistics_length s) zero64) ps

  abbrev fed_count : ℕ
  fed_count = count_after 0 ps

  fed_long : length fed_list ≡ 3 * (5 * s.d + 5)
  fed_long = each_length s 0 (replicate (statistics_length s) zero64) ps ∙ length-replicate (statistics_length s) zero64

  channel_is : (i : ℕ) → i < s.d → folded (empties s.decay) (values_at i ps) (differences_at i ps) ≡ deviations_at fed_list i s.d s.decay fed_count
  channel_is i h =
      sym (each_channel s i h 0 (replicate (statistics_length s) zero64) ps (length-replicate (statistics_length s) zero64)
      ∙ ap (λ (e : Deviations). fed_all e (value_at i) (difference_at i) ps) (five_empty (statistics_length s) i s.d s.decay (omega arith))
      ∙ fed_all_folds (empties s.decay) (value_at i) (difference_at i) ps)

  time_is : folded (empties s.decay) (fed_times ps) (time_differences ps) ≡ deviations_at fed_list (5 * s.d) 1 s.decay fed_count
  time_is =
      sym (each_time s 0 (replicate (statistics_length s) zero64) ps (length-replicate (statistics_length s) zero64)
      ∙ ap (λ (e : Deviations). fed_all e time_of time_difference ps) (five_empty (statistics_length s) (5 * s.d) 1 s.decay (omega arith))
      ∙ fed_all_folds (empties s.decay) time_of time_difference ps)

  -- the list, line by line
  fed_lines : fed_list
      ≡ lines_to s.d (λ i. statistic_at fed_list (i + 0) s.decay fed_count)
      ++ (lines_to s.d (λ i. statistic_at fed_list (i + s.d) s.decay fed_count)
      ++ (lines_to s.d (λ i. statistic_at fed_list (i + 2 * s.d) (slow_decay s.decay) fed_count)
      ++ (lines_to s.d (λ i. statistic_at fed_list (i + 3 * s.d) (slow_decay s.decay) fed_count)
      ++ (lines_to s.d (λ i. statistic_at fed_list (i + 4 * s.d) (slow_decay s.decay) fed_count)
      ++ (dev_of (statistic_at fed_list (5 * s.d) s.decay fed_count)
      ++ (dev_of (statistic_at fed_list (5 * s.d + 1) s.decay fed_count)
      ++ (dev_of (statistic_at fed_list (5 * s.d + 2) (slow_decay s.decay) fed_count)
      ++ (dev_of (statistic_at fed_list (5 * s.d + 3) (slow_decay s.decay) fed_count)
      ++ dev_of (statistic_at fed_list (5 * s.d + 4) (slow_decay s.decay) fed_count)))))))))
  fed_lines =
      let e : length fed_list ≡ 3 * (5 * s.d + 5) = fed_long in
      let a = s.decay in
      let b = slow_decay s.decay in
      sym (take_lines fed_list a fed_count 0 s.d s.d _ (omega arith) (omega arith)
      ∙ take_lines fed_list a fed_count s.d s.d (2 * s.d) _ (omega arith) (omega arith)
      ∙ take_lines fed_list b fed_count (2 * s.d) s.d (3 * s.d) _ (omega arith) (omega arith)
      ∙ take_lines fed_list b fed_count (3 * s.d) s.d (4 * s.d) _ (omega arith) (omega arith)
      ∙ take_lines fed_list b fed_count (4 * s.d) s.d (5 * s.d) _ (omega arith) (omega arith)
      ∙ take_line fed_list a fed_count (5 * s.d) (5 * s.d + 1) _ (omega arith) (omega arith)
      ∙ take_line fed_list a fed_count (5 * s.d + 1) (5 * s.d + 2) _ (omega arith) (omega arith)
      ∙ take_line fed_list b fed_count (5 * s.d + 2) (5 * s.d + 3) _ (omega arith) (omega arith)
      ∙ take_line fed_list b fed_count (5 * s.d + 3) (5 * s.d + 4) _ (omega arith) (omega arith)
      ∙ take_line fed_list b fed_count (5 * s.d + 4) (5 * s.d + 5) [] (omega arith) (omega arith)
      ∙ append-nil (take (3 * (5 * s.d + 5)) fed_list)
      ∙ take_all (3 * (5 * s.d + 5)) fed_list (omega arith))

  pub statistics_fed : statistics_from s ps ≡ feed_each s 0 (replicate (statistics_length s) zero64) ps
  unfolding statistics_from deviations_at
  statistics_fed =
      let same : (i : ℕ) → i + 0 ≡ i = λ i. omega arith in
      let one = lines_same s.d (λ i. first s.decay (values_at i ps)) (λ i. statistic_at fed_list (i + 0) s.decay fed_count)
      (λ i h. ap (λ (e : Deviations). e.value) (channel_is i h) ∙ ap (λ (n : ℕ). statistic_at fed_list n s.decay fed_count) (sym (same i))) in
      let two = lines_same s.d (λ i. second s.decay (differences_at i ps)) (λ i. statistic_at fed_list (i + s.d) s.decay fed_count)
      (λ i h. ap (λ (e : Deviations). e.difference) (channel_is i h)) in
      let three = lines_same s.d (λ i. third s.decay (values_at i ps)) (λ i. statistic_at fed_list (i + 2 * s.d) (slow_decay s.decay) fed_count)
      (λ i h. ap (λ (e : Deviations). e.deviation) (channel_is i h)) in
      let four = lines_same s.d (λ i. fourth s.decay (differences_at i ps)) (λ i. statistic_at fed_list (i + 3 * s.d) (slow_decay s.decay) fed_count)
      (λ i h. ap (λ (e : Deviations). e.difference_mean) (channel_is i h)) in
      let five = lines_same s.d (λ i. fifth s.decay (differences_at i ps)) (λ i. statistic_at fed_list (i + 4 * s.d) (slow_decay s.decay) fed_count)
      (λ i h. ap (λ (e : Deviations). e.difference_deviation) (channel_is i h)) in
      (λ j. one j ++ (two j ++ (three j ++ (four j ++ (five j
      ++ (dev_of (time_is j).value ++ (dev_of (time_is j).difference ++ (dev_of (time_is j).deviation ++ (dev_of (time_is j).difference_mean ++ dev_of (time_is j).difference_deviation)))))))))
      ∙ sym fed_lines
