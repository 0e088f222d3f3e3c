-- What the sweep over the table asks and gives: for the private contract of `sweep` alone.
use Rattle.std.specs.Prelude.{ℕ, ◌+◌, ◌*◌, ◌≤◌, ◌<◌, ◌≡◌, List, length, get_or}

-- the whole table, and no cell that is read holds more than a third of 3^20
pub record Small (s : ℕ) (t : List ℕ) : Type 0 where
  pub long : length t ≡ 21
  pub cells : (k : ℕ) → k ≤ s → 3 * get_or t k 0 ≤ 3486784401

-- each cell before s is twice what it was and what the next one was; the others are as they were
pub record Swept (s : ℕ) (t u : List ℕ) : Type 0 where
  pub long : length u ≡ length t
  pub early : (k : ℕ) → k < s → get_or u k 0 ≡ 2 * get_or t k 0 + get_or t (k + 1) 0
  pub late : (k : ℕ) → s ≤ k → get_or u k 0 ≡ get_or t k 0
