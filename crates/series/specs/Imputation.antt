-- Filling in missing cells: request #104, "Channels that drop out for a second".
use Rattle.std.specs.Prelude.{ℕ, zero, suc, ◌+◌, ◌-◌, ◌*◌, ◌/◌, ◌%◌, ◌<◌, Bool, true, false, cond, not, ◌&&◌, ◌||◌, List, [], ◌∷◌, ◌≡◌, ltb, eqb, pos, length, get_or, Float, Option, Some, None, Result, MatchResult}
use Rattle.std.specs.Float.{nan, inf, fin, binary32}
use Rattle.std.specs.Float.Ieee.{add, sub, mul, div, of_int}
use Rattle.refusal.specs.Refusal.{first_of}
use Rattle.refusal.specs.declared.Refusal.{Refusal}
use Rattle.refusal.specs.declared.Refusal.TheVariants.{Form}
use Rattle.series.specs.declared.imputation.ImputationMethod.{ImputationMethod}
use Rattle.series.specs.declared.imputation.ImputationMethod.TheVariants.{FIXED, PREVIOUS, NEXT, LINEAR}
use Rattle.series.specs.declared.imputation.Present.{Present}

-- "a mark beside each cell (0 present, 1 missing)"
abbrev pub is_present : ℕ → Bool
is_present mark = eqb mark 0

-- ---- the rules by number

-- the source's order
abbrev pub imputation_number : ImputationMethod → ℕ
imputation_number FIXED = 0
imputation_number PREVIOUS = 1
imputation_number NEXT = 2
imputation_number LINEAR = 3

-- what a number names; one above 3 names none
abbrev pub ImputationNumbered : ℕ → Result ImputationMethod Refusal → Type 0
ImputationNumbered n r = MatchResult r (λ m. imputation_number m ≡ n) (λ e. (e ≡ Form) × (3 < n))

-- ---- one channel: which readings are present, and what stands in each

-- the present cell of reading r, where x stands
abbrev pub present_at : ℕ → Float → Option Present
present_at r x = Some (record { reading = r; value = x })

-- the nearest present cell before reading i: of the readings i − 1, i − 2, .. 0 the first that is present
abbrev pub nearest_before : (ℕ → Bool) → (ℕ → Float) → ℕ → Option Present
nearest_before present value zero = None
nearest_before present value (suc i) = cond (present i) (present_at i (value i)) (nearest_before present value i)

-- the nearest present cell from reading i on: of the n readings i, i + 1, .. the first that is present
abbrev pub nearest_from : (ℕ → Bool) → (ℕ → Float) → ℕ → ℕ → Option Present
nearest_from present value zero i = None
nearest_from present value (suc n) i = cond (present i) (present_at i (value i)) (nearest_from present value n (suc i))

-- ---- the four rules

-- "copy the nearest present cell on their side in that channel, and fall to FIXED if there is none"
abbrev pub copy_of : Option Present → Float → Float
copy_of (Some p) fixed = p.value
copy_of None fixed = fixed

-- "a + (b − a) × (p / q) in f32"
unfoldable pub interpolated : Float → Float → ℕ → ℕ → Float
interpolated a b p q = add binary32 a (mul binary32 (sub binary32 b a) (div binary32 (of_int binary32 (pos p)) (of_int binary32 (pos q))))

-- "LINEAR with nearest present cells a before and b after gives .., p steps from a, q from a to b; with one side only it copies that side,
-- with neither it is FIXED": at reading i, a at reading r and b at reading s
abbrev pub between_of : Option Present → Option Present → ℕ → Float → Float
between_of (Some a) (Some b) i fixed = interpolated a.value b.value (i - a.reading) (b.reading - a.reading)
between_of (Some a) None i fixed = a.value
between_of None after i fixed = copy_of after fixed

-- "four rules: FIXED; PREVIOUS; NEXT; LINEAR": what a missing cell of reading i becomes
abbrev pub fill_of : ImputationMethod → Option Present → Option Present → ℕ → Float → Float
fill_of FIXED before after i fixed = fixed
fill_of PREVIOUS before after i fixed = copy_of before fixed
fill_of NEXT before after i fixed = copy_of after fixed
fill_of LINEAR before after i fixed = between_of before after i fixed

-- ---- readings of d cells, reading by reading: the cell of reading i and channel c stands at i * d + c

abbrev pub present_in : ℕ → List ℕ → ℕ → ℕ → Bool
present_in d marks c i = is_present (get_or marks (i * d + c) 0)

abbrev pub cell_in : ℕ → List Float → ℕ → ℕ → Float
cell_in d cells c i = get_or cells (i * d + c) nan

-- a missing cell: by the nearest present cells before and after it in its channel
unfoldable pub missing_of : ImputationMethod → ℕ → List Float → List ℕ → Float → ℕ → ℕ → Float
missing_of method d cells marks fixed c i =
    let present = present_in d marks c in
    let value = cell_in d cells c in
    fill_of method (nearest_before present value i) (nearest_from present value (length cells / d - suc i) (suc i)) i fixed

-- the cell at place k, where x stands: a present one keeps its bits, a missing one is filled
unfoldable pub imputed_at : ImputationMethod → ℕ → List Float → List ℕ → List Float → ℕ → Float → Float
imputed_at method d cells marks fixed k x =
    cond (is_present (get_or marks k 0)) x (missing_of method d cells marks (get_or fixed (k % d) nan) (k % d) (k / d))

-- every element anew, from its place and what stands there
unfoldable pub by_place : (ℕ → Float → Float) → List Float → List Float
by_place f [] = []
by_place f (x ∷ xs) = f 0 x ∷ by_place (λ k. f (suc k)) xs

-- "a filler over a list of at most 2,000 readings with a mark beside each cell (0 present, 1 missing) and a fixed value per channel"
unfoldable pub imputed : ImputationMethod → ℕ → List Float → List ℕ → List Float → List Float
imputed method d cells marks fixed = by_place (imputed_at method d cells marks fixed) cells

-- ---- refusals

-- row 10: "cells, marks or fixed values of unequal shape", by their numbers
unfoldable pub cells_misshapen : ℕ → ℕ → ℕ → ℕ → Bool
cells_misshapen d cells marks fixed = not (eqb (cells % d) 0) || (not (eqb marks cells) || not (eqb fixed d))

-- row 21: "a mark other than 0 or 1"
unfoldable pub known_marks : List ℕ → Bool
known_marks [] = true
known_marks (m ∷ ms) = ltb m 2 && known_marks ms

abbrev pub is_finite : Float → Bool
is_finite nan = false
is_finite (inf s) = false
is_finite (fin s m e) = true

-- row 11: "Present cells and fixed values must be finite"
unfoldable pub finite_present : List Float → List ℕ → Bool
finite_present (x ∷ xs) (m ∷ ms) = (not (is_present m) || is_finite x) && finite_present xs ms
finite_present [] ms = true
finite_present (x ∷ xs) [] = true

unfoldable pub all_finite : List Float → Bool
all_finite [] = true
all_finite (x ∷ xs) = is_finite x && all_finite xs

-- "(21: a mark other than 0 or 1, or over 2,000 readings; after 10 .. before 11.)"; d is judged first, 2 and 4, as in `build`
unfoldable pub impute_row : ℕ → List Float → List ℕ → List Float → ℕ
impute_row d cells marks fixed =
    first_of (
    (eqb d 0, 2)
    ∷ (ltb 16 d, 4)
    ∷ (cells_misshapen d (length cells) (length marks) (length fixed), 10)
    ∷ (ltb 2000 (length cells / d) || not (known_marks marks), 21)
    ∷ (not (finite_present cells marks && all_finite fixed), 11)
    ∷ [])

-- ---- the call: its row, 0 for none, and what the lent cells are left as

pub record Imputation : Type 0 where
  pub row : ℕ
  pub cells : List Float

abbrev pub imputation : ℕ → List Float → Imputation
imputation n l = record { row = n; cells = l }

-- a refusal leaves the cells as they were
abbrev pub impute_answer : ℕ → List Float → List Float → Imputation
impute_answer zero old new = imputation 0 new
impute_answer (suc n) old new = imputation (suc n) old

unfoldable pub impute_of : ImputationMethod → ℕ → List Float → List ℕ → List Float → Imputation
impute_of method d cells marks fixed =
    impute_answer (impute_row d cells marks fixed) cells (imputed method d cells marks fixed)

-- ---- where a cell of the answer comes from

-- Reading i of channel c: "a present cell's value, a fixed one, or the line's value between two present ones", which are its nearest.
pub data Origin (d : ℕ) (cells : List Float) (marks : List ℕ) (fixed : Float) (c i : ℕ) : Float → Type 0 where
  copy : (r : ℕ) → r < length cells / d → present_in d marks c r ≡ true → Origin d cells marks fixed c i (cell_in d cells c r)
  constant : Origin d cells marks fixed c i fixed
  on_line : (r s : ℕ) → r < i → i < s → s < length cells / d → present_in d marks c r ≡ true → present_in d marks c s ≡ true
      → ((q : ℕ) → r < q → q < s → (q ≡ i → ⊥) → present_in d marks c q ≡ false)
      → Origin d cells marks fixed c i (interpolated (cell_in d cells c r) (cell_in d cells c s) (i - r) (s - r))

-- two lists of cells of one length that agree wherever a cell is present
pub record Agree (marks : List ℕ) (cells others : List Float) : Type 0 where
  pub long : length cells ≡ length others
  pub same : (k : ℕ) → k < length cells → is_present (get_or marks k 0) ≡ true → get_or cells k nan ≡ get_or others k nan
