-- What the program's own sums ask: none wraps, and a block that it cuts lies in its list. Over plain numbers, so that no proof looks for them among all that it knows. Assumes nothing.
use Prim.Native.Nat.{ℕ, ◌+◌, ◌-◌, ◌*◌, ◌^◌, ◌≤◌, ◌<◌}
use mathlib.Core.Path.{◌≡◌, sym, subst}
use native.Mathlib.Omega.{arith}
use native.Mathlib.Nat.{mul-le-mul, mul_comm}
use mir.Syntax.{w64}
use mir.Val.{Fits}
use Rattle.trcf.specs.Settings.{Settings, dimension}
use Rattle.trcf.proofs.DrainLaws.{block_in}
use Rattle.trcf.proofs.LearnLaws.{wide}

-- ---- the settings' sums

module _ {d : ℕ} (few : d ≤ 16) where
  pub five : Fits w64 (5 * d)
  five = omega arith

  pub all_statistics : Fits w64 (3 * (5 * d + 5))
  all_statistics = omega arith

  pub all_inputs : {k : ℕ} → k ≤ 64 → Fits w64 (d * k)
  all_inputs {k} h =
      let p : d * k ≤ 16 * 64 = mul-le-mul few h in
      omega arith

-- a list that a call kept as long has the same room
pub kept_room : {m n n' : ℕ} → n' ≡ n → m ≤ n → m ≤ n'
kept_room {m} e h = subst (λ (k : ℕ). m ≤ k) (sym e) h

-- ---- a block of d numbers at i

pub block_start : (i d : ℕ) → i * d ≤ i * d + d
block_start i d = omega arith

module _ (i n d m : ℕ) (inside : i < n) (flat : n * d ≤ m) (room : m * 4 < 2 ^ 63) where
  pub block_end : i * d + d ≤ m
  block_end =
      let p : i * d + d ≤ n * d = block_in i n d inside in
      omega arith

  pub block_at : Fits w64 (i * d)
  block_at =
      let p : i * d + d ≤ m = block_end in
      omega arith

  pub block_to : Fits w64 (i * d + d)
  block_to =
      let p : i * d + d ≤ m = block_end in
      omega arith

  pub block_bytes : Fits w64 (i * d * 4)
  block_bytes =
      let p : i * d + d ≤ m = block_end in
      omega arith

pub flat_of : (n d m : ℕ) → m ≡ n * d → n * d ≤ m
flat_of n d m e = omega (arith, e)

pub flat_turned : (n d m : ℕ) → m ≡ d * n → n * d ≤ m
flat_turned n d m e = omega (arith, e, mul_comm d n)

-- the place before i, and the places that an anomaly counts back from
pub place_inside : (i n p : ℕ) → p ≡ i - 1 → i < n → p < n
place_inside i n p e h = omega (arith, e)

pub place_back : (k b : ℕ) → b < k → k - 1 - b < k
place_back k b h = omega arith

pub back_inside : (k b : ℕ) → (b ≡ 0 → ⊥) → b < k → k - b < k
back_inside k b n h = omega (arith, n)

-- a shingle's blocks lie in a point
pub flat_wide : (s : Settings) (m : ℕ) → m ≡ dimension s → s.k * s.d ≤ m
flat_wide s m e = omega (arith, e, mul_comm s.k s.d, wide s)
