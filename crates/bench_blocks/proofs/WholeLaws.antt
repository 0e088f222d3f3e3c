-- Byte by byte and line by line the bench prints the same; and so it does block by block. Assumes nothing.
use Prim.Native.Nat.{ℕ, zero, suc, ◌+◌, ◌<◌}
use native.Mathlib.Omega.{arith}
use native.Mathlib.Numerals.{add-one}
use mathlib.Core.Path.{◌≡◌, refl, sym, ap, subst, ◌∙◌}
use mathlib.Core.Bool.{Bool, true, false, cond, not, ◌||◌, false≢true}
use mathlib.Core.List.{List, [], ◌∷◌, ◌++◌, append_assoc, append-nil}
use borrow.Author.Tests.{ne_eqb, eqb-true, eqb-false}
use lib.Dec.{leb, eqb}
use lib.ListN.{length, set, take, drop, get_or, replicate, length-drop}
use lib.Ieee.{Float, binary32, binary64}
use Rattle.trcf.specs.Transformer.{zero32}
use Rattle.trcf.specs.View.{Lent, Outcome}
use Rattle.trcf.specs.Preprocessor.{accepted}
use Rattle.snapshot.specs.Read.{as_whole, as_float}
use Rattle.snapshot.specs.Scan.{number_of, single_of, double_of}
use Rattle.std.specs.Prelude.{Option, Some, None}
use Rattle.snapshot.specs.declared.field.Field.{Field}
use Rattle.snapshot.specs.declared.field.Field.TheVariants.{Single, Double, Whole, Bad}
use Rattle.bench_core.specs.declared.line.Name.{Name}
use Rattle.bench_core.specs.declared.line.Name.TheVariants.{Unread, Set, Weights, Point, Learn, Drain, Save, Other}
use Rattle.bench_core.specs.declared.line.Place.{Place}
use Rattle.bench_core.specs.declared.line.Place.TheVariants.{AsLetter, AsMethod, AsWhole, AsDouble, AsSingle, Nowhere}
use Rattle.bench_core.specs.declared.line.Line.{Line}
use Rattle.bench_core.specs.declared.step.Bench.{Bench}
use Rattle.bench_core.specs.declared.step.Phase.{Phase}
use Rattle.bench_core.specs.declared.step.Phase.TheVariants.{WantsSet, WantsWeights, Running, Ended}
use Rattle.bench_core.specs.Line.{is_named, named_line, line as line_of, after_field, short_name, long_name, name_of, letter_of, method_field, place_of, other_line, blank_line, with_whole}
use Rattle.bench_core.specs.Line.{with_double, with_single, field_at, line_with_field, cell_of, request_of, kept_of}
use Rattle.bench_core.specs.Bench.{output, no_text, LineResult, line_result, cell_length, end_of, ready_for, refused_by, built_of, built_gives, build_gives, set_gives, weights_gives, call_gives}
use Rattle.bench_core.specs.Bench.{line_by, line_gives, fresh_bench, with_line, begun, finish_by, end_result, prints}
use Rattle.bench_core.specs.Run.{bench_memory, blank, shown, printed_from, printed}
use Rattle.bench_blocks.specs.Whole.{push_byte, split_by, with_fields, line_of_text, end_text, lines_print, whole_prints}
use Rattle.bench_blocks.proofs.OutLaws.{shown_prints}
use Rattle.bench_blocks.proofs.ReadLaws.{ends, cell_heard, reads_on, at_most, step_none, step_read, reads_cell, reads_end}
use Rattle.bench_blocks.proofs.RunLaws.{roomy, ended}

-- ---- parts of a text

abbrev prefix : List ℕ → List (List ℕ) → List (List ℕ)
prefix c [] = c ∷ []
prefix c (v ∷ r) = (c ++ v) ∷ r

prefix_none : (x : ℕ) (t : List ℕ) → prefix [] (split_by x t) ≡ split_by x t
prefix_none x [] = refl
prefix_none x (b ∷ t) = go (eqb b x) (split_by x t)
  where
    go : (p : Bool) (r : List (List ℕ)) → prefix [] (cond p ([] ∷ r) (push_byte b r)) ≡ cond p ([] ∷ r) (push_byte b r)
    go true r = refl
    go false [] = refl
    go false (v ∷ r) = refl

prefix_onto : (c : List ℕ) (x : ℕ) (r : List (List ℕ)) → prefix (c ++ x ∷ []) r ≡ prefix c (push_byte x r)
prefix_onto c x [] = refl
prefix_onto c x (v ∷ r) = ap (λ (u : List ℕ). u ∷ r) (append_assoc c (x ∷ []) v)

-- ---- a cell that is read leaves a line that is begun

short_begun : (a : ℕ) → begun (short_name a) [] ≡ true
short_begun a = go (eqb a 112) (eqb a 108) (eqb a 100) (eqb a 115)
  where
    go : (p q r s : Bool) → begun (cond p Point (cond q Learn (cond r Drain (cond s Save Other)))) [] ≡ true
    go true q r s = refl
    go false true r s = refl
    go false false true s = refl
    go false false false true = refl
    go false false false false = refl

long_begun : (a b c : ℕ) → begun (long_name a b c) [] ≡ true
long_begun a b c = go (eqb c 116) (eqb a 115) (eqb b 101) (eqb a 119) (eqb b 103)
  where
    go : (p q r s t : Bool) → begun (cond p (cond q (cond r Set Other) (cond s (cond t Weights Other) Other)) Other) [] ≡ true
    go false q r s t = refl
    go true true true s t = refl
    go true true false s t = refl
    go true false r true true = refl
    go true false r true false = refl
    go true false r false t = refl

name_begun : (c : List ℕ) → begun (name_of c) [] ≡ true
name_begun [] = refl
name_begun (a ∷ []) = short_begun a
name_begun (a ∷ b ∷ []) = refl
name_begun (a ∷ b ∷ c ∷ []) = long_begun a b c
name_begun (a ∷ b ∷ c ∷ d ∷ r) = refl

module _ (l : Line) (e : begun l.name [] ≡ true) where
  whole_begun : (n : Option ℕ) → begun (with_whole l n).name [] ≡ true
  whole_begun None = refl
  whole_begun (Some n) = go (leb 6 l.fields)
    where
      go : (p : Bool) → begun (cond p (other_line l) (line_of l.name (l.fields + 1) (set l.wholes l.fields n) l.double l.count l.singles)).name [] ≡ true
      go true = refl
      go false = e

  double_begun : (f : Field) → begun (with_double l f).name [] ≡ true
  double_begun (Single x) = refl
  double_begun (Double x) = e
  double_begun (Whole n) = refl
  double_begun Bad = refl

  single_begun : (f : Field) → begun (with_single l f).name [] ≡ true
  single_begun (Single x) = go (leb 17 l.count)
    where
      go : (p : Bool)
          → begun (cond p (line_of l.name (after_field l.fields) l.wholes l.double l.count l.singles)
          (line_of l.name (after_field l.fields) l.wholes l.double (l.count + 1) (set l.singles l.count x))).name [] ≡ true
      go true = e
      go false = e
  single_begun (Double x) = refl
  single_begun (Whole n) = refl
  single_begun Bad = refl

  at_begun : (p : Place) (c : List ℕ) → begun (field_at p l c).name [] ≡ true
  at_begun AsLetter c = whole_begun (letter_of c)
  at_begun AsMethod c = whole_begun (method_field (number_of (as_whole c)))
  at_begun AsWhole c = whole_begun (number_of (as_whole c))
  at_begun AsDouble c = double_begun (double_of (as_float binary64 c))
  at_begun AsSingle c = single_begun (single_of (as_float binary32 c))
  at_begun Nowhere c = refl

cell_begun : (l : Line) (c : List ℕ) → begun (cell_of l c).name [] ≡ true
unfolding cell_of line_with_field
cell_begun l c = go (is_named l.name Unread) refl
  where
    go : (q : Bool) → is_named l.name Unread ≡ q → begun (cond q (named_line l (name_of c)) (line_with_field l c)).name [] ≡ true
    go true e = name_begun c
    go false e = at_begun l (ap not e) (place_of l.name l.fields) c

-- ---- what a line leaves: nothing of the line before, unless all is over

abbrev is_ended : Phase → Bool
is_ended WantsSet = false
is_ended WantsWeights = false
is_ended Running = false
is_ended Ended = true

module _ (b : Bench) (k : Line) (l : Line) (lists : Lent) (y : List Float) (out : List ℕ) where
  -- the line is blank, and what was in it does not matter
  abbrev Clean : LineResult → LineResult → Type 0
  Clean g h = (g ≡ h) × (h.bench.line ≡ blank_line)

  clean_set : (n : Name) → Clean (set_gives n (with_line b k) l lists y out) (set_gives n b l lists y out)
  clean_set Unread = (refl, refl)
  clean_set Set = (refl, refl)
  clean_set Weights = (refl, refl)
  clean_set Point = (refl, refl)
  clean_set Learn = (refl, refl)
  clean_set Drain = (refl, refl)
  clean_set Save = (refl, refl)
  clean_set Other = (refl, refl)

  clean_built : (o : Outcome) → (built_gives b o y out).bench.line ≡ blank_line
  clean_built o = go o.row
    where
      go : (r : ℕ) → (accepted r (line_result (ready_for Running b.builder o.head b.given) o.lent y (output 0 out)) (refused_by r b o.lent y out)).bench.line ≡ blank_line
      go zero = refl
      go (suc r) = refl

  clean_weights : (n : Name) → Clean (weights_gives n (with_line b k) l lists y out) (weights_gives n b l lists y out)
  unfolding build_gives
  clean_weights Unread = (refl, refl)
  clean_weights Set = (refl, refl)
  clean_weights Weights = (refl, clean_built (built_of b.builder (kept_of l) lists))
  clean_weights Point = (refl, refl)
  clean_weights Learn = (refl, refl)
  clean_weights Drain = (refl, refl)
  clean_weights Save = (refl, refl)
  clean_weights Other = (refl, refl)

  clean_call : (n : Name) → Clean (call_gives n (with_line b k) l lists y out) (call_gives n b l lists y out)
  clean_call Unread = (refl, refl)
  clean_call Set = (refl, refl)
  clean_call Weights = (refl, refl)
  clean_call Point = (refl, refl)
  clean_call Learn = (refl, refl)
  clean_call Drain = (refl, refl)
  clean_call Save = (refl, refl)
  clean_call Other = (refl, refl)

  clean_by : (p : Phase) → is_ended p ≡ false → Clean (line_by p (with_line b k) l lists y out) (line_by p b l lists y out)
  clean_by WantsSet e = clean_set (request_of l)
  clean_by WantsWeights e = clean_weights (request_of l)
  clean_by Running e = clean_call (request_of l)
  clean_by Ended e = absurd (false≢true (sym e))

  clean : is_ended b.phase ≡ false → Clean (line_gives (with_line b k) l lists y out) (line_gives b l lists y out)
  unfolding line_gives
  clean e = clean_by b.phase e

-- ---- over

module _ (lists : Lent) (y : List Float) where
  over_line : (b : Bench) (l : Line) → b.phase ≡ Ended → line_gives b l lists y blank ≡ line_result b lists y (output 0 blank)
  unfolding line_gives
  over_line b l e = ap (λ (p : Phase). line_by p b l lists y blank) e

  pub over_reads : (t : List ℕ) (b : Bench) (c : List ℕ) → b.phase ≡ Ended → reads_on b lists y c t ≡ []
  over_reads [] b c e = ap (λ (p : Phase). shown (finish_by p b c blank).out) e
  over_reads (x ∷ t) b c e =
      go (ends x) (eqb x 9) (over_reads t (with_line b (cell_of b.line c)) [] e) (over_reads t b [] e) (over_reads t b (c ++ x ∷ []) e)
    where
      go : (p q : Bool) → reads_on (with_line b (cell_of b.line c)) lists y [] t ≡ [] → reads_on b lists y [] t ≡ [] → reads_on b lists y (c ++ x ∷ []) t ≡ []
          → (let h = cond q (line_result (with_line b (cell_of b.line c)) lists y (output 0 blank)) (line_gives b (cell_of b.line c) lists y blank) in
          cond p (shown h.out ++ reads_on h.bench h.lent h.point [] t) (reads_on b lists y (c ++ x ∷ []) t) ≡ [])
      go false q i j k = k
      go true true i j k = i
      go true false i j k = rw (over_line b (cell_of b.line c) e) j

  over_prints : (ts : List (List ℕ)) (b : Bench) → b.phase ≡ Ended → lines_print b lists y ts ≡ []
  over_prints [] b e = refl
  over_prints (t ∷ []) b e = ap (λ (p : Phase). end_text p t) e
  over_prints (t ∷ u ∷ r) b e = rw (over_line b (line_of_text t) e) (over_prints (u ∷ r) b e)

is_ended_lem : (p : Phase) → is_ended p ≡ true → p ≡ Ended
is_ended_lem WantsSet e = absurd (false≢true e)
is_ended_lem WantsWeights e = absurd (false≢true e)
is_ended_lem Running e = absurd (false≢true e)
is_ended_lem Ended e = refl

-- the line that the bench has begun does not matter to the lines
line_free : (b : Bench) (k : Line) (lists : Lent) (y : List Float) (ts : List (List ℕ)) → is_ended b.phase ≡ false → lines_print (with_line b k) lists y ts ≡ lines_print b lists y ts
line_free b k lists y [] e = refl
line_free b k lists y (t ∷ []) e = refl
line_free b k lists y (t ∷ u ∷ r) e =
    ap (λ (h : LineResult). shown h.out ++ lines_print h.bench h.lent h.point (u ∷ r)) (clean b k (line_of_text t) lists y blank e).0

-- ---- byte by byte

abbrev some : List ℕ → Bool
some [] = false
some (x ∷ t) = true

some_snoc : (p : List ℕ) (x : ℕ) → some (p ++ x ∷ []) ≡ true
some_snoc [] x = refl
some_snoc (a ∷ p) x = refl

begun_snoc : (n : Name) (c : List ℕ) (x : ℕ) → begun n (c ++ x ∷ []) ≡ true
begun_snoc n [] x = refl
begun_snoc n (a ∷ c) x = refl

-- p is read of the line: its fields are in the bench, but for the last, c
record Along (l : Line) (c p : List ℕ) : Type 0 where
  line : (u : List ℕ) → with_fields l (split_by 9 (c ++ u)) ≡ line_of_text (p ++ u)
  free : (u : List ℕ) → split_by 9 (c ++ u) ≡ prefix c (split_by 9 u)
  begins : begun l.name c ≡ some p

along_blank : (l : Line) → l ≡ blank_line → Along l [] []
unfolding blank_line
along_blank l e =
    record {
      line = λ u. ap (λ (k : Line). with_fields k (split_by 9 u)) e;
      free = λ u. sym (prefix_none 9 u);
      begins = ap (λ (k : Line). begun k.name []) e;
    }

along_tab : (l : Line) (c p : List ℕ) → Along l c p → Along (cell_of l c) [] (p ++ 9 ∷ [])
along_tab l c p a =
    record {
      line = λ u.
          ap (λ (d : List ℕ). with_fields (cell_of l d) (split_by 9 u)) (sym (append-nil c))
          ∙ ap (with_fields l) (sym (a.free (9 ∷ u)))
          ∙ a.line (9 ∷ u)
          ∙ ap line_of_text (sym (append_assoc p (9 ∷ []) u));
      free = λ u. sym (prefix_none 9 u);
      begins = cell_begun l c ∙ sym (some_snoc p 9);
    }

along_byte : (l : Line) (c p : List ℕ) (x : ℕ) → eqb x 9 ≡ false → Along l c p → Along l (c ++ x ∷ []) (p ++ x ∷ [])
along_byte l c p x e a =
    record {
      line = λ u. ap (λ (d : List ℕ). with_fields l (split_by 9 d)) (append_assoc c (x ∷ []) u) ∙ a.line (x ∷ u) ∙ ap line_of_text (sym (append_assoc p (x ∷ []) u));
      free = λ u.
          ap (split_by 9) (append_assoc c (x ∷ []) u)
          ∙ a.free (x ∷ u)
          ∙ ap (λ (q : Bool). prefix c (cond q ([] ∷ split_by 9 u) (push_byte x (split_by 9 u)))) e
          ∙ sym (prefix_onto c x (split_by 9 u));
      begins = begun_snoc l.name c x ∙ sym (some_snoc p x);
    }

along_line : (l : Line) (c p : List ℕ) → Along l c p → line_of_text (p ++ []) ≡ cell_of l c
along_line l c p a = sym (a.line []) ∙ ap (with_fields l) (a.free []) ∙ ap (cell_of l) (append-nil c)

along_end : (b : Bench) (c p : List ℕ) → begun b.line.name c ≡ some p → (q : Phase) → shown (finish_by q b c blank).out ≡ end_text q p
along_end b c p e WantsSet = shown_prints (no_text 19) blank
along_end b c p e WantsWeights = shown_prints (no_text 19) blank
along_end b c p e Running = go (begun b.line.name c) p e
  where
    go : (q : Bool) (p : List ℕ) → q ≡ some p → shown (cond q (end_result (end_of b) (prints (no_text 19) blank)) (end_result (end_of b) (output 0 blank))).out ≡ end_text Running p
    go true [] f = absurd (false≢true (sym f))
    go true (x ∷ p) f = shown_prints (no_text 19) blank
    go false [] f = refl
    go false (x ∷ p) f = absurd (false≢true f)
along_end b c p e Ended = refl

more_lines : (b : Bench) (lists : Lent) (y : List Float) (u : List ℕ) (l : Line) → line_of_text u ≡ l → (ps : List (List ℕ))
    → (let h = line_gives b l lists y blank in
    lines_print b lists y (u ∷ prefix [] ps) ≡ shown h.out ++ lines_print h.bench h.lent h.point (prefix [] ps))
more_lines b lists y u l e [] =
    ap (λ (k : Line). shown (line_gives b k lists y blank).out ++ lines_print (line_gives b k lists y blank).bench (line_gives b k lists y blank).lent (line_gives b k lists y blank).point ([] ∷ []))
    e
more_lines b lists y u l e (v ∷ r) =
    ap (λ (k : Line). shown (line_gives b k lists y blank).out ++ lines_print (line_gives b k lists y blank).bench (line_gives b k lists y blank).lent (line_gives b k lists y blank).point (v ∷ r)) e

abbrev Reads : List ℕ → Bench → Lent → List Float → List ℕ → List ℕ → Type 0
Reads t b lists y c p = reads_on b lists y c t ≡ lines_print b lists y (prefix p (split_by 10 t))

reads_lines : (t : List ℕ) (b : Bench) (lists : Lent) (y : List Float) (c p : List ℕ) → (is_ended b.phase ≡ false → Along b.line c p) → Reads t b lists y c p
reads_lines [] b lists y c p a = go (is_ended b.phase) refl
  where
    go : (q : Bool) → is_ended b.phase ≡ q → Reads [] b lists y c p
    go true e = over_reads lists y [] b c (is_ended_lem b.phase e) ∙ sym (over_prints lists y (prefix p (split_by 10 [])) b (is_ended_lem b.phase e))
    go false e = along_end b c p (a e).begins b.phase ∙ ap (end_text b.phase) (sym (append-nil p))
reads_lines (x ∷ t) b lists y c p a = top (is_ended b.phase) refl (λ c' l z d q k. reads_lines t c' l z d q k)
  where
    go : is_ended b.phase ≡ false → (r : Bool) → eqb x 9 ≡ r → (s : Bool) → eqb x 10 ≡ s
        → ((c' : Bench) (l : Lent) (z : List Float) (d q : List ℕ) → (is_ended c'.phase ≡ false → Along c'.line d q) → Reads t c' l z d q)
        → (let h = cond r (line_result (with_line b (cell_of b.line c)) lists y (output 0 blank)) (line_gives b (cell_of b.line c) lists y blank) in
        cond (r || s) (shown h.out ++ reads_on h.bench h.lent h.point [] t) (reads_on b lists y (c ++ x ∷ []) t)
        ≡ lines_print b lists y (prefix p (cond s ([] ∷ split_by 10 t) (push_byte x (split_by 10 t)))))
    go e true f true g ih = absurd (omega (arith, eqb-true x 9 f, eqb-true x 10 g))
    go e true f false g ih =
        ih (with_line b (cell_of b.line c)) lists y [] (p ++ x ∷ [])
        (λ k. subst (λ (n : ℕ). Along (cell_of b.line c) [] (p ++ n ∷ [])) (sym (eqb-true x 9 f)) (along_tab b.line c p (a e)))
        ∙ line_free b (cell_of b.line c) lists y (prefix (p ++ x ∷ []) (split_by 10 t)) e
        ∙ ap (lines_print b lists y) (prefix_onto p x (split_by 10 t))
    go e false f true g ih =
        let h : LineResult = line_gives b (cell_of b.line c) lists y blank in
        ap (λ (u : List ℕ). shown h.out ++ u)
        (ih h.bench h.lent h.point [] [] (λ k. along_blank h.bench.line (clean b b.line (cell_of b.line c) lists y blank e).1))
        ∙ sym (more_lines b lists y (p ++ []) (cell_of b.line c) (along_line b.line c p (a e)) (split_by 10 t))
        ∙ ap (λ (ps : List (List ℕ)). lines_print b lists y ((p ++ []) ∷ ps)) (prefix_none 10 t)
    go e false f false g ih =
        ih b lists y (c ++ x ∷ []) (p ++ x ∷ []) (λ k. along_byte b.line c p x f (a e)) ∙ ap (lines_print b lists y) (prefix_onto p x (split_by 10 t))

    top : (q : Bool) → is_ended b.phase ≡ q
        → ((c' : Bench) (l : Lent) (z : List Float) (d q : List ℕ) → (is_ended c'.phase ≡ false → Along c'.line d q) → Reads t c' l z d q) → Reads (x ∷ t) b lists y c p
    top true e ih = over_reads lists y (x ∷ t) b c (is_ended_lem b.phase e) ∙ sym (over_prints lists y (prefix p (split_by 10 (x ∷ t))) b (is_ended_lem b.phase e))
    top false e ih = go e (eqb x 9) refl (eqb x 10) refl ih

-- ---- the whole input

pub reads_whole : (t : List ℕ) → reads_on fresh_bench bench_memory (replicate 320 zero32) [] t ≡ whole_prints t
unfolding whole_prints fresh_bench
reads_whole t =
    reads_lines t fresh_bench bench_memory (replicate 320 zero32) [] [] (λ k. along_blank fresh_bench.line refl)
    ∙ ap (lines_print fresh_bench bench_memory (replicate 320 zero32)) (prefix_none 10 t)

-- ---- step after step on the whole input (specs/Run) is the same

printed_from_lem : (n : ℕ) (b : Bench) (lists : Lent) (y : List Float) (t : List ℕ) → length t < n → printed_from n b lists y t ≡ reads_on b lists y [] t
printed_from_lem zero b lists y t h = absurd (omega arith)
printed_from_lem (suc n) b lists y t h = go (eqb (cell_length t) (length t)) refl (λ c l z u i. printed_from_lem n c l z u i)
  where
    go : (q : Bool) → eqb (cell_length t) (length t) ≡ q
        → ((c : Bench) (l : Lent) (z : List Float) (u : List ℕ) → length u < n → printed_from n c l z u ≡ reads_on c l z [] u)
        → printed_from (suc n) b lists y t ≡ reads_on b lists y [] t
    go true e ih =
        let k : cell_length t ≡ length t = eqb-true (cell_length t) (length t) e in
        rw (step_none b lists y blank roomy t k, printed_from) (ended b t ∙ sym (reads_end b lists y t k))
    go false e ih =
        let k : cell_length t < length t = omega (arith, at_most t, eqb-false (cell_length t) (length t) e) in
        let g : LineResult = cell_heard b lists y blank (take (cell_length t) t) (get_or t (cell_length t) 0) in
        let i = ih g.bench g.lent g.point (drop (cell_length t + 1) t) (simp length-drop (omega arith)) in
        let d : drop (cell_length t + 1) t ≡ drop (suc (cell_length t)) t ++ [] = ap (λ (j : ℕ). drop j t) (add-one (cell_length t)) ∙ sym (append-nil (drop (suc (cell_length t)) t)) in
        let p : shown g.out ++ printed_from n g.bench g.lent g.point (drop (cell_length t + 1) t) ≡ reads_on b lists y [] t =
        ap (λ (u : List ℕ). shown g.out ++ u) (i ∙ ap (reads_on g.bench g.lent g.point []) d)
        ∙ sym (reads_cell b lists y t [] k)
        ∙ ap (reads_on b lists y []) (append-nil t) in
        rw (step_read b lists y blank roomy t k, printed_from, ne_eqb (cell_length t + 1) 0 (λ f. omega arith)) (rw (step_read b lists y blank roomy t k) p)

pub printed_whole : (t : List ℕ) → printed t ≡ whole_prints t
unfolding printed
printed_whole t = printed_from_lem (suc (length t)) fresh_bench bench_memory (replicate 320 zero32) t (omega arith) ∙ reads_whole t
