-- The head in words: what is written is read back, and the row of words. Assumes nothing.
use Prim.Native.Nat.{ℕ, ◌+◌, ◌≤◌, ◌<◌}
use mathlib.Core.Bool.{Bool, true, false, cond, ◌||◌}
use mathlib.Core.List.{List, [], ◌∷◌, ◌++◌, map, append_assoc}
use mathlib.Core.Path.{◌≡◌, refl, sym, ap, ◌∙◌}
use native.Mathlib.Omega.{arith}
use lib.Dec.{ltb}
use lib.ListN.{length, take, drop, get_or, set, length-drop, length-append, length-map}
use lib.Seq.{length-take-le, take_at, drop_at, drop-drop}
use lib.Ieee.{Float, binary32, binary64, of_bits, to_bits}
use lib.Ieee.Bits.{of_bits-to_bits}
use borrow.Author.Tests.{lt-ltb, le-ltb, ltb-false}
use borrow.Rule.Slice.PartMut.{put_mid}
use Rattle.refusal.specs.Lent.{over}
use Rattle.trcf.specs.Types.{method_number}
use Rattle.snapshot.specs.Read.{all_codes}
use Rattle.snapshot.proofs.ReadKinds.{to_codes}
use Rattle.trcf.specs.View.{outside_row, or_else, counting}
use Rattle.trcf.specs.declared.types.TransformMethod.{TransformMethod}
use Rattle.trcf.specs.declared.types.TransformMethod.TheVariants.{NONE, WEIGHTED, DIFFERENCE, SUBTRACT_MA, NORMALIZE, NORMALIZE_DIFFERENCE}
use Rattle.trcf.specs.declared.types.ForestMode.{ForestMode}
use Rattle.trcf.specs.declared.types.ForestMode.TheVariants.{STANDARD, TIME_AUGMENTED, STREAMING_IMPUTE, GAP_AUGMENTED}
use Rattle.trcf.specs.declared.head.Preprocessor.{Preprocessor}
use Rattle.trcf.proofs.OutcomeLaws.{or_else_is}
use Rattle.capi.specs.Head.{mode_number, mode_of, method_of, kind_row, codes_row, single, codes_in, head_of, head_numbers, front_of, words_of}
use Rattle.capi.specs.Head.{counts_over, words_short_row as fewRow, form_row, words_row, HeadFits}
use Rattle.capi.specs.Steps.Reading.{HeadRead}
use Rattle.capi.proofs.WordLaws.{mode_back, method_back, single_back, singles_back}

-- ---- reading

abbrev pub head_by : ForestMode → TransformMethod → Float → Float → List Float → List ℕ → List ℕ → Preprocessor
head_by mode method decay time weights codes w =
    record {
      transformer = record {
        transform_method = method;
        input_length = get_or w 2 0;
        transform_decay = decay;
        weights = weights;
        count = get_or w 10 0;
      };
      forest_mode = mode;
      shingle_size = get_or w 3 0;
      start_normalization = get_or w 4 0;
      stop_normalization = get_or w 5 0;
      weight_time = time;
      values_seen = get_or w 8 0;
      internal_timestamp = get_or w 9 0;
      initial_len = get_or w 11 0;
      codes = codes;
    }

pub head_made : (w : List ℕ) {mode : ForestMode} {method : TransformMethod} {decay time : Float} {weights : List Float} {codes : List ℕ}
    → mode ≡ mode_of (get_or w 0 0) → method ≡ method_of (get_or w 1 0) → decay ≡ of_bits binary64 (get_or w 6 0) → time ≡ single (get_or w 7 0)
    → weights ≡ map single (take 16 (drop 12 w)) → codes ≡ codes_in w
    → head_by mode method decay time weights codes w ≡ head_of w
unfolding head_of
head_made w a b c d e f = λ j. head_by (a j) (b j) (c j) (d j) (e j) (f j) w

-- ---- what is written is read back, whatever lies after it

pub head_back : (h : Preprocessor) → HeadFits h → (rest : List ℕ) → head_of (words_of h ++ rest) ≡ h
unfolding head_of words_of front_of head_numbers
head_back h g rest =
    λ j. record {
      transformer = record {
        transform_method = method_back h.transformer.transform_method j;
        input_length = h.transformer.input_length;
        transform_decay = of_bits-to_bits binary64 h.transformer.transform_decay g.decay_fits j;
        weights = weights_back j;
        count = h.transformer.count;
      };
      forest_mode = mode_back h.forest_mode j;
      shingle_size = h.shingle_size;
      start_normalization = h.start_normalization;
      stop_normalization = h.stop_normalization;
      weight_time = single_back h.weight_time g.time_fits j;
      values_seen = h.values_seen;
      internal_timestamp = h.internal_timestamp;
      initial_len = h.initial_len;
      codes = codes_back j;
    }
  where
    sixteen_bits : length (map (to_bits binary32) h.transformer.weights) ≡ 16
    sixteen_bits = length-map h.transformer.weights (to_bits binary32) ∙ g.sixteen

    weights_back : map single (take 16 ((map (to_bits binary32) h.transformer.weights ++ h.codes) ++ rest)) ≡ h.transformer.weights
    weights_back =
        let v = map (to_bits binary32) h.transformer.weights in
        ap (λ (l : List ℕ). map single (take 16 l)) (append_assoc v h.codes rest)
        ∙ ap (map single) (take_at v (h.codes ++ rest) 16 sixteen_bits)
        ∙ singles_back h.transformer.weights g.weights_fit

    codes_back : take 16 (drop 16 ((map (to_bits binary32) h.transformer.weights ++ h.codes) ++ rest)) ≡ h.codes
    codes_back =
        let v = map (to_bits binary32) h.transformer.weights in
        ap (λ (l : List ℕ). take 16 (drop 16 l)) (append_assoc v h.codes rest)
        ∙ ap (take 16) (drop_at v (h.codes ++ rest) 16 sixteen_bits)
        ∙ take_at h.codes rest 16 g.sixteen_codes

-- ---- the row of words

pub long : (w : List ℕ) → 44 ≤ length w → fewRow w ≡ 0
long w h = ap (λ (b : Bool). cond b 20 0) (le-ltb (length w) 44 h)

pub form_few : (w : List ℕ) → length w < 44 → 20 ≡ form_row w
unfolding form_row
form_few w h = rw (lt-ltb (length w) 44 h)

module _ (w : List ℕ) (k : ℕ) (h : 44 ≤ length w) (e : k ≡ kind_row (get_or w 0 0) (get_or w 1 0)) where
  past_few : or_else (kind_row (get_or w 0 0) (get_or w 1 0)) (codes_row (codes_in w)) ≡ form_row w
  unfolding form_row
  past_few = ap (λ (q : ℕ). or_else q (or_else (kind_row (get_or w 0 0) (get_or w 1 0)) (codes_row (codes_in w)))) (sym (long w h))

  pub form_kind : (k ≡ 0 → ⊥) → k ≡ form_row w
  form_kind n = e ∙ sym (or_else_is (kind_row (get_or w 0 0) (get_or w 1 0)) (codes_row (codes_in w)) (λ z. n (e ∙ z))) ∙ past_few

  pub form_codes : k ≡ 0 → (c : ℕ) → c ≡ codes_row (codes_in w) → c ≡ form_row w
  form_codes z c p = p ∙ ap (λ (m : ℕ). or_else m (codes_row (codes_in w))) (sym (sym e ∙ z)) ∙ past_few

pub row_form : (w : List ℕ) → (form_row w ≡ 0 → ⊥) → form_row w ≡ words_row w
unfolding words_row
row_form w n = sym (or_else_is (form_row w) (outside_row (head_of w)) n)

pub row_outside : (w : List ℕ) {g : Preprocessor} {row : ℕ} → form_row w ≡ 0 → g ≡ head_of w → row ≡ outside_row g → row ≡ words_row w
unfolding words_row
row_outside w z i q = q ∙ ap (λ (x : Preprocessor). outside_row x) i ∙ sym (ap (λ (m : ℕ). or_else m (outside_row (head_of w))) z)

-- what row 0 says of the words of the codes
pub all_codes_lem : (v : List ℕ) {c : ℕ} → c ≡ codes_row v → c ≡ 0 → all_codes v ≡ true
all_codes_lem v {c} p z = go (all_codes v) (sym p ∙ z)
  where
    go : (b : Bool) → ◌≡◌ {A = ℕ} (cond b 0 19) 0 → b ≡ true
    go true e = refl
    go false e = absurd (omega (arith, e))

-- what a form's row 0 says of the words
pub formed : (w : List ℕ) → form_row w ≡ 0 → (44 ≤ length w) × (all_codes (codes_in w) ≡ true)
unfolding form_row
formed w z = go (ltb (length w) 44) refl (ltb 3 (get_or w 0 0) || ltb 5 (get_or w 1 0)) z
  where
    go : (a : Bool) → ltb (length w) 44 ≡ a → (b : Bool) → or_else (cond a 20 0) (or_else (cond b 19 0) (codes_row (codes_in w))) ≡ 0
        → (44 ≤ length w) × (all_codes (codes_in w) ≡ true)
    go true e b r = absurd (omega (arith, r))
    go false e true r = absurd (omega (arith, r))
    go false e false r = (ltb-false (length w) 44 e, all_codes_lem (codes_in w) refl r)

-- a head that was read has sixteen codes
pub read_codes : {w : List ℕ} {h : Preprocessor} → HeadRead w h → length h.codes ≡ 16
unfolding head_of
read_codes {w} {h} r = ap (λ (x : Preprocessor). length x.codes) r.is ∙ length-take-le 16 (drop 28 w) (omega (arith, length-drop 28 w, r.whole))

-- ---- writing

-- twelve words stored one by one
pub twelve : (w : List ℕ) (a b c d e f g h i j k l : ℕ) → 12 ≤ length w
    → set (set (set (set (set (set (set (set (set (set (set (set w 0 a) 1 b) 2 c) 3 d) 4 e) 5 f) 6 g) 7 h) 8 i) 9 j) 10 k) 11 l
    ≡ a ∷ b ∷ c ∷ d ∷ e ∷ f ∷ g ∷ h ∷ i ∷ j ∷ k ∷ l ∷ drop 12 w
twelve (x₀ ∷ x₁ ∷ x₂ ∷ x₃ ∷ x₄ ∷ x₅ ∷ x₆ ∷ x₇ ∷ x₈ ∷ x₉ ∷ x₁₀ ∷ x₁₁ ∷ w) a b c d e f g h i j k l n = refl
twelve [] a b c d e f g h i j k l n = absurd (omega arith)
twelve (x₀ ∷ []) a b c d e f g h i j k l n = absurd (omega arith)
twelve (x₀ ∷ x₁ ∷ []) a b c d e f g h i j k l n = absurd (omega arith)
twelve (x₀ ∷ x₁ ∷ x₂ ∷ []) a b c d e f g h i j k l n = absurd (omega arith)
twelve (x₀ ∷ x₁ ∷ x₂ ∷ x₃ ∷ []) a b c d e f g h i j k l n = absurd (omega arith)
twelve (x₀ ∷ x₁ ∷ x₂ ∷ x₃ ∷ x₄ ∷ []) a b c d e f g h i j k l n = absurd (omega arith)
twelve (x₀ ∷ x₁ ∷ x₂ ∷ x₃ ∷ x₄ ∷ x₅ ∷ []) a b c d e f g h i j k l n = absurd (omega arith)
twelve (x₀ ∷ x₁ ∷ x₂ ∷ x₃ ∷ x₄ ∷ x₅ ∷ x₆ ∷ []) a b c d e f g h i j k l n = absurd (omega arith)
twelve (x₀ ∷ x₁ ∷ x₂ ∷ x₃ ∷ x₄ ∷ x₅ ∷ x₆ ∷ x₇ ∷ []) a b c d e f g h i j k l n = absurd (omega arith)
twelve (x₀ ∷ x₁ ∷ x₂ ∷ x₃ ∷ x₄ ∷ x₅ ∷ x₆ ∷ x₇ ∷ x₈ ∷ []) a b c d e f g h i j k l n = absurd (omega arith)
twelve (x₀ ∷ x₁ ∷ x₂ ∷ x₃ ∷ x₄ ∷ x₅ ∷ x₆ ∷ x₇ ∷ x₈ ∷ x₉ ∷ []) a b c d e f g h i j k l n = absurd (omega arith)
twelve (x₀ ∷ x₁ ∷ x₂ ∷ x₃ ∷ x₄ ∷ x₅ ∷ x₆ ∷ x₇ ∷ x₈ ∷ x₉ ∷ x₁₀ ∷ []) a b c d e f g h i j k l n = absurd (omega arith)

pub numbers_stored : (w : List ℕ) (h : Preprocessor) {a b g i : ℕ} → 12 ≤ length w
    → a ≡ mode_number h.forest_mode → b ≡ method_number h.transformer.transform_method → g ≡ to_bits binary64 h.transformer.transform_decay → i ≡ to_bits binary32 h.weight_time
    → set (set (set (set (set
    (set (set (set (set (set (set (set w 0 a) 1 b) 2 h.transformer.input_length) 3 h.shingle_size) 4 h.start_normalization) 5 h.stop_normalization) 6 g) 7 i) 8
    h.values_seen) 9 h.internal_timestamp) 10 h.transformer.count) 11 h.initial_len
    ≡ over w (head_numbers h)
unfolding over head_numbers
numbers_stored w h {a} {b} {g} {i} n p q r s =
    twelve w a b h.transformer.input_length h.shingle_size h.start_normalization h.stop_normalization g i h.values_seen h.internal_timestamp
    h.transformer.count h.initial_len n
    ∙ (λ j. p j ∷ q j ∷ h.transformer.input_length ∷ h.shingle_size ∷ h.start_normalization ∷ h.stop_normalization ∷ r j ∷ s j ∷ h.values_seen ∷ h.internal_timestamp ∷
    h.transformer.count ∷ h.initial_len ∷ drop 12 w)

-- a list laid over the front, and one after it: the one and then the other
behind : (w p v : List ℕ) (a n : ℕ) → length p ≡ a → length v ≡ n → put_mid a n (over w p) v ≡ over w (p ++ v)
unfolding over
behind w p v a n e f =
    let q = drop (length p) w in
    (λ j. take_at p q a e j ++ (v ++ drop n (drop_at p q a e j)))
    ∙ ap (λ (r : List ℕ). p ++ (v ++ r)) (drop-drop n (length p) w ∙ ap (λ (k : ℕ). drop k w) (ap (λ (m : ℕ). length p + m) (sym f) ∙ sym (length-append p v)))
    ∙ sym (append_assoc p v (drop (length (p ++ v)) w))

twelve_numbers : (h : Preprocessor) → length (head_numbers h) ≡ 12
unfolding head_numbers
twelve_numbers h = refl

-- the weights after the numbers
pub weights_stored : (w w' : List ℕ) (h : Preprocessor) (v : List ℕ) → w' ≡ over w (head_numbers h) → v ≡ map (to_bits binary32) h.transformer.weights → length v ≡ 16
    → put_mid 12 16 w' v ≡ over w (front_of h)
unfolding front_of
weights_stored w w' h v e p n =
    ap (λ (u : List ℕ). put_mid 12 16 u v) e
    ∙ behind w (head_numbers h) v 12 16 (twelve_numbers h) n
    ∙ ap (λ (u : List ℕ). over w (head_numbers h ++ u)) p

front_length : (h : Preprocessor) → length h.transformer.weights ≡ 16 → length (front_of h) ≡ 28
unfolding front_of
front_length h e =
    let v = map (to_bits binary32) h.transformer.weights in
    omega (arith, length-append (head_numbers h) v, twelve_numbers h, length-map h.transformer.weights (to_bits binary32), e)

-- and the codes after the front
pub codes_stored : (w w' : List ℕ) (h : Preprocessor) (v : List ℕ) → length h.transformer.weights ≡ 16 → w' ≡ over w (front_of h) → v ≡ h.codes → length v ≡ 16
    → put_mid 28 16 w' v ≡ over w (words_of h)
unfolding words_of
codes_stored w w' h v z e p n =
    ap (λ (u : List ℕ). put_mid 28 16 u v) e
    ∙ behind w (front_of h) v 28 16 (front_length h z) n
    ∙ ap (λ (u : List ℕ). over w (front_of h ++ u)) p

-- ---- heads in use: the words of a head that `build` accepts are not refused, and a call's counters go into them as into the head

mode_known : (m : ForestMode) → ltb 3 (mode_number m) ≡ false
mode_known STANDARD = refl
mode_known TIME_AUGMENTED = refl
mode_known STREAMING_IMPUTE = refl
mode_known GAP_AUGMENTED = refl

method_known : (m : TransformMethod) → ltb 5 (method_number m) ≡ false
method_known NONE = refl
method_known WEIGHTED = refl
method_known DIFFERENCE = refl
method_known SUBTRACT_MA = refl
method_known NORMALIZE = refl
method_known NORMALIZE_DIFFERENCE = refl

kind_known : (m : ForestMode) (t : TransformMethod) → 0 ≡ kind_row (mode_number m) (method_number t)
kind_known m t = sym (ap (λ (b : Bool). cond (b || ltb 5 (method_number t)) 19 0) (mode_known m) ∙ ap (λ (b : Bool). cond b 19 0) (method_known t))

whole_words : (h : Preprocessor) → HeadFits h → (rest : List ℕ) → 44 ≤ length (words_of h ++ rest)
unfolding words_of
whole_words h g rest =
    omega (arith, length-append (front_of h ++ h.codes) rest, length-append (front_of h) h.codes, front_length h g.sixteen, g.sixteen_codes)

-- the codes of a head stand in their words
codes_known : (h : Preprocessor) → HeadFits h → (rest : List ℕ) → 0 ≡ codes_row (codes_in (words_of h ++ rest))
unfolding head_of
codes_known h g rest =
    let e : codes_in (words_of h ++ rest) ≡ h.codes = ap (λ (x : Preprocessor). x.codes) (head_back h g rest) in
    sym (ap codes_row e ∙ ap (λ (b : Bool). cond b 0 19) (to_codes h.codes g.codes_fit))

pub in_use : (h : Preprocessor) → HeadFits h → outside_row h ≡ 0 → (rest : List ℕ) → words_row (words_of h ++ rest) ≡ 0
unfolding words_of front_of head_numbers
in_use h g e rest =
    let w = words_of h ++ rest in
    let z = form_codes w 0 (whole_words h g rest) (kind_known h.forest_mode h.transformer.transform_method) refl 0 (codes_known h g rest) in
    sym (row_outside w (sym z) (sym (head_back h g rest)) (sym e))

pub counts_in_words : (h : Preprocessor) (rest : List ℕ) (count seen internal n : ℕ)
    → counts_over (words_of h ++ rest) (counting h count seen internal n) ≡ words_of (counting h count seen internal n) ++ rest
unfolding counts_over words_of front_of head_numbers
counts_in_words h rest count seen internal n = refl
