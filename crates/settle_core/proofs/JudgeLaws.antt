-- Pairs one after the other, and the whole input. Assumes nothing.
use Prim.Native.Nat.{ℕ, zero, suc, ◌+◌, ◌-◌, ◌≤◌, ◌<◌}
use native.Mathlib.Omega.{arith}
use native.Mathlib.Numerals.{add-one}
use mathlib.Core.Path.{◌≡◌, refl, sym, ap, ◌∙◌}
use mathlib.Core.Bool.{Bool, true, false, cond, ◌&&◌}
use mathlib.Core.List.{List, [], ◌∷◌, ◌++◌, map}
use mathlib.Core.Option.{none, some}
use borrow.Author.Tests.{eqb-true, not-false}
use lib.Dec.{eqb}
use lib.ListN.{length, take, set, get_or, replicate}
use lib.Seq.{take-suc-set}
use lib.Ieee.{Float}
use Rattle.trcf.specs.Settings.{Settings, settings_row}
use Rattle.trcf.specs.View.{settings_from}
use Rattle.trcf.specs.declared.head.PreprocessorBuilder.{PreprocessorBuilder}
use Rattle.std.specs.Prelude.{Result, Ok, Err}
use Rattle.std.specs.Result.{IsErrAnd}
use Rattle.refusal.specs.declared.Refusal.{Refusal}
use Rattle.refusal.specs.Refusal.{accepted, number_of}
use Rattle.refusal.proofs.RefusalLaws.{refused_is}
use Rattle.snapshot.proofs.Accepted.{rows_of}
use Rattle.bench_core.specs.declared.line.Name.TheVariants.{Set, Weights}
use Rattle.bench_core.specs.Line.{is_named, request_of, kept_of, kept_count}
use Rattle.bench_core.specs.Bench.{code_count, zero_codes}
use Rattle.bench_core.specs.declared.line.Line.{Line}
use Rattle.settling.specs.Settling.{Signal, pair_row}
use Rattle.bench_core.proofs.StepLaws.{take_zeros}
use Rattle.settling.proofs.Theorem.{pair_parts}
use Rattle.settle_core.specs.Input.{line_of, PairRead, faulty, pair_taken, settings_by, pair_by, pair_of, Input, input_refused, input, signalled, and_then, opens, then_pair, input_from, input_of}
use Rattle.settle_core.specs.Input.{signal_read as signalAt}
use Rattle.settle_core.specs.Steps.{pair_settings, pair_in, prefixed, input_in}
use Rattle.settle_core.specs.declared.pair.Pair as kept
use Rattle.settle_core.specs.declared.pair.PairRead as read
use Rattle.settle_core.specs.declared.judge.Judged.{Judged}

-- ---- a pair from its two lines

-- what `?` hands on
pub handed_fault : (c : Refusal) (r : Result read.PairRead Refusal) → IsErrAnd r (λ d. d ≡ c) → (n : ℕ) → number_of c ≡ n → (t : List ℕ) → pair_in r t ≡ faulty n
handed_fault c (Ok a) h n e t = absurd h
handed_fault c (Err d) h n e t = ap (λ (k : ℕ). faulty k) (ap number_of h ∙ e)

pub pair_refused : (s : Settings) (c : Refusal) → number_of c ≡ pair_row s → (rest : List ℕ) → faulty (number_of c) ≡ pair_by s rest
unfolding pair_by
pair_refused s c e rest =
    sym (refused_is c (number_of c) (pair_taken s rest) (faulty (number_of c)) refl) ∙ ap (λ (i : ℕ). accepted i (pair_taken s rest) (faulty i)) e

one_number : (l : List Float) (d : Float) → length l ≡ 1 → l ≡ get_or l 0 d ∷ []
one_number [] d h = absurd (omega arith)
one_number (x ∷ []) d h = refl
one_number (x ∷ y ∷ l) d h = absurd (omega arith)

first_taken : (n : ℕ) (l : List Float) (d : Float) → length (take n l) ≡ 1 → get_or (take n l) 0 d ≡ get_or l 0 d
first_taken zero l d h = absurd (omega arith)
first_taken (suc n) [] d h = refl
first_taken (suc n) (x ∷ l) d h = refl

and_first : (a b : Bool) → (a && b) ≡ true → a ≡ true
and_first true b h = refl
and_first false b h = h

weights_long : (s : Settings) → settings_row s ≡ 0 → length s.weights ≡ s.d
weights_long s e =
    let c = rows_of s e in
    eqb-true _ _ (and_first (eqb (length s.weights) s.d) _ (not-false _ c.1.1.1.1.0))

module _ (b : PreprocessorBuilder) (w : Line) (n m : ℕ) (en : n ≡ kept_count w.count) (em : m ≡ code_count b.input_dimensions) (hm : m ≤ 16) where
  abbrev s : Settings
  s = settings_from b (kept_of w) (zero_codes b)

  -- the settings that the row is asked of
  pub handed_is : settings_from b (take n w.singles) (take m (replicate {A = ℕ} 16 0)) ≡ s
  unfolding kept_of
  handed_is =
      let a : take n w.singles ≡ take (kept_count w.count) w.singles = ap (λ (k : ℕ). take k w.singles) en in
      let c : take m (replicate {A = ℕ} 16 0) ≡ zero_codes b = take_zeros 16 m hm ∙ ap (λ (k : ℕ). replicate {A = ℕ} k 0) em in
      λ j. settings_from b (a j) (c j)

  -- of d 1: one weight, and one code
  pub pair_taken_lem : pair_row s ≡ 0 → (d : Float) (rest : List ℕ) → pair_taken (settings_from b (get_or w.singles 0 d ∷ []) (0 ∷ [])) rest ≡ pair_by s rest
  unfolding pair_by kept_of
  pair_taken_lem e d rest =
      let p = pair_parts s e in
      let one : b.input_dimensions ≡ 1 = p.1 in
      let l : length (take (kept_count w.count) w.singles) ≡ 1 = weights_long s p.0 ∙ one in
      let u : kept_of w ≡ get_or w.singles 0 d ∷ [] = one_number (kept_of w) d l ∙ ap (λ (x : Float). x ∷ []) (first_taken (kept_count w.count) w.singles d l) in
      let z : zero_codes b ≡ 0 ∷ [] = ap (λ (k : ℕ). replicate {A = ℕ} (code_count k) 0) one in
      sym (rw e (λ j. pair_taken (settings_from b (u j) (z j)) rest))

-- a line that is not of the form
module _ (t : List ℕ) where
  abbrev set_asked : Bool
  set_asked = (line_of t).ended && is_named (request_of (line_of t).line) Set

  abbrev weights_asked : List ℕ → Bool
  weights_asked r = (line_of r).ended && is_named (request_of (line_of r).line) Weights

  pub set_refused : set_asked ≡ false → faulty 19 ≡ pair_of t
  unfolding pair_of
  set_refused e = sym (rw e)

  -- the second line stands from a place r on
  module _ (e : set_asked ≡ true) (r : List ℕ) (q : r ≡ (line_of t).rest) where
    pub weights_refused : weights_asked r ≡ false → faulty 19 ≡ pair_of t
    unfolding pair_of
    weights_refused f =
        let g : weights_asked (line_of t).rest ≡ false = ap weights_asked (sym q) ∙ f in
        sym (rw (e, g))

    pub both_lines : weights_asked r ≡ true → pair_by (settings_by (line_of t).line (line_of r).line) (line_of r).rest ≡ pair_of t
    unfolding pair_of
    both_lines f =
        let g : weights_asked (line_of t).rest ≡ true = ap weights_asked (sym q) ∙ f in
        ap (λ (u : List ℕ). pair_by (settings_by (line_of t).line (line_of u).line) (line_of u).rest) q ∙ sym (rw (e, g))

-- ---- pairs in front

pub prefixed_refused : (ss : List Settings) (n : ℕ) → prefixed ss (input_refused n) ≡ input_refused n
prefixed_refused [] n = refl
prefixed_refused (s ∷ ss) n = ap (and_then s) (prefixed_refused ss n)

pub prefixed_input : (ss : List Settings) (g : Signal) → prefixed ss (input [] g) ≡ input ss g
prefixed_input [] g = refl
prefixed_input (s ∷ ss) g = ap (and_then s) (prefixed_input ss g)

prefixed_snoc : (ss : List Settings) (s : Settings) (i : Input) → prefixed (ss ++ (s ∷ [])) i ≡ prefixed ss (and_then s i)
prefixed_snoc [] s i = refl
prefixed_snoc (x ∷ ss) s i = ap (and_then x) (prefixed_snoc ss s i)

pub map_snoc : {A B : Type 0} (f : A → B) (l : List A) (x : A) → map f (l ++ (x ∷ [])) ≡ map f l ++ (f x ∷ [])
map_snoc f [] x = refl
map_snoc f (y ∷ l) x = ap (λ (r : List _). f y ∷ r) (map_snoc f l x)

-- what `?` hands on
pub handed_refusal : (c : Refusal) (r : Result Judged Refusal) → IsErrAnd r (λ d. d ≡ c) → input_in r ≡ input_refused (number_of c)
handed_refusal c (Ok a) h = absurd h
handed_refusal c (Err d) h = ap (λ (k : Refusal). input_refused (number_of k)) h

-- ---- where no pair begins

-- by whether a pair begins
abbrev from : ℕ → List ℕ → Bool → Input
from k t b = elim b [ true ↦ then_pair (pair_of t) (λ r. input_from k r) | false ↦ signalled (signalAt t) ]

closed : (k : ℕ) (t : List ℕ) → opens t ≡ false → input_from k t ≡ input_from 0 t
closed zero t e = refl
closed (suc k) t e = ap (from k t) e ∙ sym (ap (λ (b : Bool). cond b (input_refused 23) (signalled (signalAt t))) e)

pub none_opens : (t : List ℕ) → opens t ≡ false → input_refused 23 ≡ input_of t
unfolding input_of
none_opens t e = sym (rw e)

pub input_begins : (t : List ℕ) → opens t ≡ true → input_of t ≡ input_from 8 t
unfolding input_of
input_begins t e = rw e

pub ninth : (ss : List Settings) (t : List ℕ) → opens t ≡ true → input_refused 23 ≡ prefixed ss (input_from 0 t)
ninth ss t e = sym (prefixed_refused ss 23) ∙ ap (prefixed ss) (sym (rw e))

module _ (ss : List Settings) (t : List ℕ) (e : opens t ≡ false) where
  pub no_signal_there : none ≡ signalAt t → input_refused 23 ≡ prefixed ss (input_from 0 t)
  no_signal_there q = sym (prefixed_refused ss 23) ∙ ap (prefixed ss) (sym (rw e (ap signalled (sym q))))

  pub signal_there : (g : Signal) → some g ≡ signalAt t → input ss g ≡ prefixed ss (input_from 0 t)
  signal_there g q = sym (prefixed_input ss g) ∙ ap (prefixed ss) (sym (rw e (ap signalled (sym q))))

-- ---- the loop

unfoldable pub read_so_far : List kept.Pair → ℕ → List ℕ → Input
read_so_far pairs n t = prefixed (map pair_settings (take n pairs)) (input_from (8 - n) t)

module _ (pairs : List kept.Pair) (n : ℕ) (t : List ℕ) where
  pub read_closed : opens t ≡ false → prefixed (map pair_settings (take n pairs)) (input_from 0 t) ≡ read_so_far pairs n t
  unfolding read_so_far
  read_closed e = ap (prefixed (map pair_settings (take n pairs))) (sym (closed (8 - n) t e))

  pub read_all_lem : 8 ≤ n → prefixed (map pair_settings (take n pairs)) (input_from 0 t) ≡ read_so_far pairs n t
  unfolding read_so_far
  read_all_lem h = let z : 0 ≡ 8 - n = omega arith in ap (λ (k : ℕ). prefixed (map pair_settings (take n pairs)) (input_from k t)) z

  module _ (h : n < 8) (o : opens t ≡ true) where
    next_pair : input_from (8 - n) t ≡ then_pair (pair_of t) (input_from (8 - (n + 1)))
    next_pair =
        let a : 8 - n ≡ suc (8 - (n + 1)) = omega arith in
        ap (λ (k : ℕ). input_from k t) a ∙ ap (from (8 - (n + 1)) t) o

    pub read_fault : (k : ℕ) → faulty k ≡ pair_of t → input_refused k ≡ read_so_far pairs n t
    unfolding read_so_far
    read_fault k q =
        sym (prefixed_refused (map pair_settings (take n pairs)) k)
        ∙ ap (prefixed (map pair_settings (take n pairs))) (ap (λ (p : PairRead). then_pair p (input_from (8 - (n + 1)))) q ∙ sym next_pair)

    pub read_pair : n < length pairs → (p : kept.Pair) (rest : List ℕ) → pair_taken (pair_settings p) rest ≡ pair_of t → read_so_far (set pairs n p) (n + 1) rest ≡ read_so_far pairs n t
    unfolding read_so_far
    read_pair l p rest q =
        let a : take (n + 1) (set pairs n p) ≡ take n pairs ++ (p ∷ []) = ap (λ (k : ℕ). take k (set pairs n p)) (add-one n) ∙ take-suc-set pairs n p l in
        ap (λ (ps : List kept.Pair). prefixed (map pair_settings ps) (input_from (8 - (n + 1)) rest)) a
        ∙ ap (λ (ss : List Settings). prefixed ss (input_from (8 - (n + 1)) rest)) (map_snoc pair_settings (take n pairs) p)
        ∙ prefixed_snoc (map pair_settings (take n pairs)) (pair_settings p) (input_from (8 - (n + 1)) rest)
        ∙ ap (prefixed (map pair_settings (take n pairs))) (ap (λ (x : PairRead). then_pair x (input_from (8 - (n + 1)))) q ∙ sym next_pair)

-- ---- the first pair

module _ (t : List ℕ) (o : opens t ≡ true) where
  pub first_fault : (k : ℕ) → faulty k ≡ pair_of t → input_refused k ≡ input_of t
  first_fault k q = ap (λ (p : PairRead). then_pair p (input_from 7)) q ∙ ap (from 7 t) (sym o) ∙ sym (input_begins t o)

  -- eight times the first pair, of which one is read
  pub first_pair : (p : kept.Pair) (pairs : List kept.Pair) (rest : List ℕ) → take 1 pairs ≡ p ∷ [] → pair_taken (pair_settings p) rest ≡ pair_of t
      → input_of t ≡ read_so_far pairs 1 rest
  unfolding read_so_far
  first_pair p pairs rest e q =
      input_begins t o
      ∙ ap (from 7 t) o
      ∙ ap (λ (r : PairRead). then_pair r (input_from 7)) (sym q)
      ∙ ap (λ (ps : List kept.Pair). prefixed (map pair_settings ps) (input_from 7 rest)) (sym e)
