-- Request #105: "Each call names a role from 0 to 3." Calls with their roles, under one table that is lent beside the trace and is no part of it.
use Rattle.std.specs.Prelude.{ℕ, Bool, cond, List, [], ◌∷◌, ◌++◌, take, drop}
use Rattle.trcf.specs.Calls.{Call}
use Rattle.access.specs.Access.{needs, granted}

pub record Asked : Type 0 where
  pub role : ℕ
  pub call : Call

abbrev pub ask : ℕ → Call → Asked
ask r c = record { role = r; call = c }

-- what the contracts of crate access ask before a call: proofs/RoleProgram.antt ties it to them
abbrev pub allowed : List ℕ → Asked → Bool
allowed table a = granted table a.role (needs a.call)

-- "The history of a trace counts granted calls only"
abbrev pub granted_calls : List ℕ → List Asked → List Call
granted_calls table [] = []
granted_calls table (a ∷ l) = cond (allowed table a) (a.call ∷ []) [] ++ granted_calls table l

-- the answers t of the granted calls, each in its place among all calls, and in the other places what a withheld call gets
module _ {B : Type 0} (withheld : Call → B) where
  abbrev pub with_withheld : List ℕ → List Asked → List B → List B
  with_withheld table [] t = []
  with_withheld table (a ∷ l) t = cond (allowed table a) (take 1 t) (withheld a.call ∷ []) ++ with_withheld table l (cond (allowed table a) (drop 1 t) t)

-- ---- M is a state, what the program holds, or the history's entries: `step` is what a call leaves of it

module _ {M : Type 0} (step : M → Call → M) where
  -- "A withheld call changes nothing"
  abbrev pub guarded_step : List ℕ → M → Asked → M
  guarded_step table m a = cond (allowed table a) (step m a.call) m

  abbrev pub guarded_run : List ℕ → M → List Asked → M
  guarded_run table m [] = m
  guarded_run table m (a ∷ l) = guarded_run table (guarded_step table m a) l

  -- what `look` sees at each place: "A list of n calls has n + 1 places."
  module _ {P : Type 0} (look : M → P) where
    abbrev pub guarded_places : List ℕ → M → List Asked → List P
    guarded_places table m [] = look m ∷ []
    guarded_places table m (a ∷ l) = look m ∷ guarded_places table (guarded_step table m a) l

  -- `say` is the answer to a call
  module _ {B : Type 0} (say : M → Call → B) (withheld : Call → B) where
    abbrev pub guarded_say : List ℕ → M → Asked → B
    guarded_say table m a = cond (allowed table a) (say m a.call) (withheld a.call)

    abbrev pub guarded_answers : List ℕ → M → List Asked → List B
    guarded_answers table m [] = []
    guarded_answers table m (a ∷ l) = guarded_say table m a ∷ guarded_answers table (guarded_step table m a) l

-- ---- "programs run as one with every right"

abbrev pub as_role0 : List Call → List Asked
as_role0 [] = []
as_role0 (c ∷ cs) = ask 0 c ∷ as_role0 cs
