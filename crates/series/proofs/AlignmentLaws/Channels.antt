-- Lists of one number for each channel.
use Prim.Native.Nat.{ℕ, zero, suc, ◌<◌}
use mathlib.Core.Path.{◌≡◌, refl, ap, ◌∙◌}
use mathlib.Core.List.{List, ◌∷◌}
use native.Mathlib.Omega.{arith}
use lib.ListN.{length, get_or}
use lib.Ieee.{Float}
use Rattle.series.specs.Gaps.{per_channel}

pub channels_length : (d : ℕ) (f : ℕ → Float) → length (per_channel d f) ≡ d
channels_length zero f = refl
channels_length (suc d) f = ap suc (channels_length d (λ c. f (suc c)))

pub channels_at : (d : ℕ) (f : ℕ → Float) (c : ℕ) (z : Float) → c < d → get_or (per_channel d f) c z ≡ f c
channels_at zero f c z h = absurd (omega arith)
channels_at (suc d) f zero z h = refl
channels_at (suc d) f (suc c) z h = channels_at d (λ k. f (suc k)) c z (omega arith)

pub channels_same : (d : ℕ) (f g : ℕ → Float) → ((c : ℕ) → c < d → f c ≡ g c) → per_channel d f ≡ per_channel d g
channels_same zero f g h = refl
channels_same (suc d) f g h =
    ap (λ (x : Float). x ∷ per_channel d (λ c. f (suc c))) (h 0 (omega arith))
    ∙ ap (λ (l : List Float). g 0 ∷ l) (channels_same d (λ c. f (suc c)) (λ c. g (suc c)) (λ c k. h (suc c) (omega arith)))
