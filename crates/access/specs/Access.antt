-- Request #105, shared readers: a table of 4 roles by 4 rights, lent beside the trace and no part of it, stands before every entry.
use Rattle.std.specs.Prelude.{ℕ, ◌+◌, ◌*◌, Bool, true, cond, ◌&&◌, List, [], ◌∷◌, ltb, eqb, length, get_or, replicate, Result, Ok, Err}
use Rattle.refusal.specs.declared.Refusal.{Refusal}
use Rattle.refusal.specs.declared.Refusal.TheVariants.{Withheld}
use Rattle.trcf.specs.Calls.{Call, shingled_point, post_process, drain, transform, invert_extrapolation, scale, shift, status}
use Rattle.access.specs.declared.rights.Right.{Right}
use Rattle.access.specs.declared.rights.Right.TheVariants.{SEE, LEARN, SAVE, RESTORE}

-- ---- rights

-- "4 roles by 4 rights (see …; learn …; put away; take up)"
abbrev pub place : Right → ℕ
place SEE = 0
place LEARN = 1
place SAVE = 2
place RESTORE = 3

-- "see: point, transform, turn-back, scale, shift, status; learn: learn, drain"; "Point may drain, so it needs see and learn."
abbrev pub needs : Call → List Right
needs (shingled_point x t out) = SEE ∷ LEARN ∷ []
needs (post_process c) = LEARN ∷ []
needs drain = LEARN ∷ []
needs (transform x t out) = SEE ∷ []
needs (invert_extrapolation c) = SEE ∷ []
needs (scale out) = SEE ∷ []
needs (shift out) = SEE ∷ []
needs (status out) = SEE ∷ []

-- ---- row 22: "right withheld, role above 3, a table not of 16 cells, or a cell other than 0 or 1"

abbrev pub bits : List ℕ → Bool
bits [] = true
bits (x ∷ xs) = ltb x 2 && bits xs

-- the table is one, and the role one of its four
abbrev pub table_fits : List ℕ → ℕ → Bool
table_fits table role = eqb (length table) 16 && (ltb role 4 && bits table)

-- "role by role in that order of rights"
abbrev pub table_entry : List ℕ → ℕ → Right → ℕ
table_entry table role r = get_or table (4 * role + place r) 0

-- "1 granted, 0 withheld"
abbrev pub has : List ℕ → ℕ → List Right → Bool
has table role [] = true
has table role (r ∷ rs) = eqb (table_entry table role r) 1 && has table role rs

unfoldable pub granted : List ℕ → ℕ → List Right → Bool
granted table role rs = table_fits table role && has table role rs

-- what a test of the table says, as an answer
abbrev pub allowed : Bool → Result Unit Refusal
allowed b = cond b (Ok tt) (Err Withheld)

-- ---- every entry, of whatever kind its answer is: what the entry below gives, or 22 "before row 1" with all as it was

module _ {A : Type 0} where
  abbrev pub guarded : List ℕ → ℕ → List Right → A → A → A
  guarded table role rs below withheld = cond (granted table role rs) below withheld

-- ---- "programs run as one with every right": role 0 of this table

abbrev pub every_right : List ℕ
every_right = replicate 16 1
