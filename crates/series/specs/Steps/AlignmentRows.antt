-- The rows of `align` in two steps, as the code asks them: of the readings, and, with the pairs counted, of the room.
use Rattle.std.specs.Prelude.{ℕ, ◌*◌, ◌≤◌, ◌≡◌, ◌||◌, List, [], ◌∷◌, ltb, eqb, length}
use Rattle.refusal.specs.Refusal.{first_of}
use Rattle.series.specs.Alignment.{channel_limit, readings_misshapen, unusable}

unfoldable pub readings_row : ℕ → ℕ → List ℕ → ℕ → List ℕ → ℕ
readings_row d lc l rc r =
    first_of (
    (eqb d 0, 2)
    ∷ (ltb channel_limit d, 4)
    ∷ (readings_misshapen d lc (length l) || readings_misshapen d rc (length r), 10)
    ∷ (unusable l || unusable r, 24)
    ∷ [])

unfoldable pub room_row : ℕ → ℕ → ℕ → ℕ → ℕ → ℕ
room_row d n lo ro go = first_of ((ltb lo n || (ltb ro n || ltb go d), 20) ∷ [])

-- what is known where no row of the readings refuses
pub record ReadingsShaped (d lc l rc r : ℕ) : Type 0 where
  pub few : d ≤ channel_limit
  pub left : lc ≡ l * d
  pub right : rc ≡ r * d

-- and where the room suffices
pub record RoomForPairs (d n lo ro go : ℕ) : Type 0 where
  pub lefts : n ≤ lo
  pub rights : n ≤ ro
  pub gaps : d ≤ go
