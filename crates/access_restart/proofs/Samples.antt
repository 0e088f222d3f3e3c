-- Request #105 by computation: every cell of the table decides its entries and no other, each way to 22, and which calls of a day the history counts. Assumes nothing.
use Prim.Native.Nat.{ℕ, ◌+◌}
use mathlib.Core.Path.{◌≡◌, refl}
use mathlib.Core.Bool.{Bool, true, false}
use mathlib.Core.List.{List, [], ◌∷◌, ◌++◌, map}
use mathlib.Core.Option.{none, some}
use lib.ListN.{take, drop, set, replicate}
use lib.Ieee.{Float, nan}
use Rattle.ranges.specs.RangeVector.{ranges}
use Rattle.trcf.specs.Extrapolation.{forecast}
use Rattle.trcf.specs.Calls.{Forecast, Call, shingled_point, drain, transform, invert_extrapolation, scale, shift, status}
use Rattle.restart_program.proofs.Instances.{one, two, four, six, learn_at, stranding}
use Rattle.access.specs.declared.rights.Right.TheVariants.{SAVE, RESTORE}
use Rattle.access.specs.Access.{granted, every_right}
use Rattle.access_restart.specs.Asked.{Asked, ask, allowed, granted_calls}

-- ---- every cell of the table decides its entries and no other

abbrev no_forecast : Forecast
no_forecast = forecast (ranges [] [] []) (ranges [] [] []) (ranges [] [] [])

abbrev each_call : List Call
each_call =
    shingled_point [] 0 []
    ∷ learn_at [] 0 none
    ∷ drain
    ∷ transform [] 0 []
    ∷ invert_extrapolation no_forecast
    ∷ scale []
    ∷ shift []
    ∷ status []
    ∷ []

-- what a role may: point, learn, drain, transform, turn-back, scale, shift, status, save, restore
abbrev may_by : List ℕ → ℕ → List Bool
may_by table role = map (λ (c : Call). allowed table (ask role c)) each_call ++ (granted table role (SAVE ∷ []) ∷ granted table role (RESTORE ∷ []) ∷ [])

abbrev may_all : List ℕ → List (List Bool)
may_all table = map (may_by table) (0 ∷ 1 ∷ 2 ∷ 3 ∷ [])

abbrev all : List Bool
all = replicate 10 true

abbrev nothing : List Bool
nothing = replicate 10 false

-- with one right withheld, in the table's order: see takes point with it, learn takes point too
abbrev without : List (List Bool)
without =
    (false ∷ true ∷ true ∷ false ∷ false ∷ false ∷ false ∷ false ∷ true ∷ true ∷ [])
    ∷ (false ∷ false ∷ false ∷ true ∷ true ∷ true ∷ true ∷ true ∷ true ∷ true ∷ [])
    ∷ (true ∷ true ∷ true ∷ true ∷ true ∷ true ∷ true ∷ true ∷ false ∷ true ∷ [])
    ∷ (true ∷ true ∷ true ∷ true ∷ true ∷ true ∷ true ∷ true ∷ true ∷ false ∷ [])
    ∷ []

-- with that one alone granted: point has neither alone
abbrev alone : List (List Bool)
alone =
    (false ∷ false ∷ false ∷ true ∷ true ∷ true ∷ true ∷ true ∷ false ∷ false ∷ [])
    ∷ (false ∷ true ∷ true ∷ false ∷ false ∷ false ∷ false ∷ false ∷ false ∷ false ∷ [])
    ∷ (false ∷ false ∷ false ∷ false ∷ false ∷ false ∷ false ∷ false ∷ true ∷ false ∷ [])
    ∷ (false ∷ false ∷ false ∷ false ∷ false ∷ false ∷ false ∷ false ∷ false ∷ true ∷ [])
    ∷ []

-- the other roles as `others`
abbrev role_among : List Bool → ℕ → List Bool → List (List Bool)
role_among others role mine = replicate role others ++ (mine ∷ drop (role + 1) (replicate 4 others))

cells_withhold : map (λ (i : ℕ). may_all (set every_right i 0)) (0 ∷ 1 ∷ 2 ∷ 3 ∷ 4 ∷ 5 ∷ 6 ∷ 7 ∷ 8 ∷ 9 ∷ 10 ∷ 11 ∷ 12 ∷ 13 ∷ 14 ∷ 15 ∷ [])
    ≡ map (role_among all 0) without ++ (map (role_among all 1) without ++ (map (role_among all 2) without ++ map (role_among all 3) without))
unfolding granted
cells_withhold = refl

cells_grant : map (λ (i : ℕ). may_all (set (replicate 16 0) i 1)) (0 ∷ 1 ∷ 2 ∷ 3 ∷ 4 ∷ 5 ∷ 6 ∷ 7 ∷ 8 ∷ 9 ∷ 10 ∷ 11 ∷ 12 ∷ 13 ∷ 14 ∷ 15 ∷ [])
    ≡ map (role_among nothing 0) alone ++ (map (role_among nothing 1) alone ++ (map (role_among nothing 2) alone ++ map (role_among nothing 3) alone))
unfolding granted
cells_grant = refl

-- ---- "(22: …, role above 3, a table not of 16 cells, or a cell other than 0 or 1)": role 4 and 2^64 − 1, 15 cells, 17, and a 2 in a cell that is not asked for

abbrev pub bad_tables : List (List ℕ)
bad_tables = take 15 every_right ∷ (1 ∷ every_right) ∷ set every_right 15 2 ∷ []

no_role : (may_by every_right 4 ≡ nothing) × (may_by every_right 18446744073709551615 ≡ nothing)
unfolding granted
no_role = (refl, refl)

no_table : map may_all bad_tables ≡ replicate 3 (replicate 4 nothing)
unfolding granted
no_table = refl

-- ---- a day of three people under one table: role 0 may all, role 1 see, role 2 see and learn, role 3 save and restore

abbrev pub garage : List ℕ
garage = 1 ∷ 1 ∷ 1 ∷ 1 ∷ 1 ∷ 0 ∷ 0 ∷ 0 ∷ 1 ∷ 1 ∷ 0 ∷ 0 ∷ 0 ∷ 0 ∷ 1 ∷ 1 ∷ []

abbrev pub y : List Float
y = one ∷ two ∷ []

-- a withheld learn, which would wait with the others; a granted one; 12 for a time that falls; point with see alone; a learn; a withheld drain and a granted one
abbrev pub morning : List Asked
morning =
    ask 1 (learn_at (six ∷ []) 4 none)
    ∷ ask 2 (learn_at (four ∷ []) 5 none)
    ∷ ask 0 (learn_at (six ∷ []) 3 (some y))
    ∷ ask 1 (shingled_point (one ∷ []) 6 (nan ∷ nan ∷ nan ∷ []))
    ∷ ask 2 (learn_at (six ∷ []) 18446744073709551614 (some y))
    ∷ ask 3 drain
    ∷ ask 0 drain
    ∷ []

-- role 4; a point; a withheld learn at a time that no program can hold; a learn; a withheld scale; a status whose output is too short
abbrev pub evening : List Asked
evening =
    ask 4 (status (nan ∷ []))
    ∷ ask 2 (shingled_point (one ∷ []) 18446744073709551615 (nan ∷ nan ∷ nan ∷ []))
    ∷ ask 1 (learn_at (two ∷ []) 1180591620717411303424 (some y))
    ∷ ask 0 (learn_at (two ∷ []) 18446744073709551615 (some (two ∷ four ∷ [])))
    ∷ ask 3 (scale (nan ∷ []))
    ∷ ask 1 (status [])
    ∷ []

-- "The history of a trace counts granted calls only"
pub counted_morning : granted_calls garage morning ≡ take 4 stranding
unfolding granted
counted_morning = refl

pub counted_evening : granted_calls garage evening ≡ drop 4 stranding
unfolding granted
counted_evening = refl

abbrev pub day : List Asked
day = morning ++ evening

pub counted : granted_calls garage day ≡ stranding
unfolding granted
counted = refl
