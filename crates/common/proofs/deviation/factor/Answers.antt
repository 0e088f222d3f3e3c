-- `common::deviation::factor` meets its contract: each return is the case of `factor_of` that its tests pick. Assumes nothing.
use Rattle.std.proofs.Common.{◌≡◌, ℕ, true, false}
use lib.Ieee.{Float, binary64, sub, lt, eq}
use Rattle.common.specs.Deviation.{zero64, one64, factor_of}
use Rattle.factors.specs.Factors.{growing_at}
use Rattle.common.proofs.deviation.factor.Goals as goal

pub returns-then-discount : goal.returns-then-discount
unfolding factor_of
returns-then-discount c = rw c.if-discount.true

smaller : (d b : Float) (n : ℕ) → eq d zero64 ≡ false → b ≡ growing_at n → lt (sub binary64 one64 d) b ≡ true → sub binary64 one64 d ≡ factor_of d n
unfolding factor_of growing_at
smaller d b n z e h = rw (z, rw e at h)

larger : (d b : Float) (n : ℕ) → eq d zero64 ≡ false → b ≡ growing_at n → lt (sub binary64 one64 d) b ≡ false → b ≡ factor_of d n
unfolding factor_of growing_at
larger d b n z e h = rw (z, rw e at h) e

pub returns-then-a-b : goal.returns-then-a-b
returns-then-a-b c = smaller _ _ _ c.if-discount.false c.growing-b.ensures c.if-a-b.true

pub returns-else-a-b : goal.returns-else-a-b
returns-else-a-b c = larger _ _ _ c.if-discount.false c.growing-b.ensures c.if-a-b.false
