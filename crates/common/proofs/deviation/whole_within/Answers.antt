-- `common::deviation::whole_within` meets its contract: its tests of the size are `whole_by_size`. Assumes nothing.
use Rattle.std.proofs.Common.{◌≡◌, ℕ, ◌<◌, ◌≤◌, true, false, ◌&&◌, T, leb, pos, refl, ap, ◌∙◌, arith, le-leb}
use borrow.Author.Tests.{lt-leb}
use lib.Ieee.{Float, binary64, lt, eq, of_int, to_unsigned}
use Rattle.common.specs.Corrected.{whole_within}
use Rattle.common.specs.Steps.Whole.{float_size}
use Rattle.common.proofs.WholeTests.{wide_limit, whole_by_size, size_above, size_below}
use Rattle.common.proofs.deviation.whole_within.Goals as goal

cut_allowed : (x a : Float) → a ≡ float_size x → lt a wide_limit ≡ true → T (lt (lib.Ieee.fin true 1 (lib.IntN.pos 0)) a) × T (lt a (lib.Ieee.fin false 1 (lib.IntN.pos 64)))
cut_allowed x a e h = rw e (size_above x (rw e at h), size_below (float_size x) (rw e at h))

pub truncating_f64_to_u64-n-requires : goal.truncating_f64_to_u64-n-requires
truncating_f64_to_u64-n-requires c =
    let h = cut_allowed _ _ c.size_of-a.ensures c.if-a.true in
    record { lower_bound = h.0; upper_bound = h.1 }

-- the promise at the size a and its whole part n, in each return's words
module _ (b n : ℕ) (x a : Float) (B : b ≤ 9007199254740992) (e : a ≡ float_size x) where
  at_size : (n ≡ to_unsigned 64 a) → (lt a wide_limit && (leb n b && eq (of_int binary64 (pos n)) a)) ≡ whole_within b x
  at_size k = rw (k, e) (whole_by_size b x B)

  over : (n ≡ to_unsigned 64 a) → lt a wide_limit ≡ true → b < n → false ≡ whole_within b x
  over k w h = rw (w, lt-leb n b h) at (at_size k)

  equal : (n ≡ to_unsigned 64 a) → (y : Float) → lt a wide_limit ≡ true → n ≤ b → y ≡ of_int binary64 (pos n) → eq y a ≡ whole_within b x
  equal k y w h q = ap (λ (v : Float). eq v a) q ∙ (rw (w, le-leb n b h) at (at_size k))

wide : (b : ℕ) (x a : Float) → b ≤ 9007199254740992 → a ≡ float_size x → lt a wide_limit ≡ false → false ≡ whole_within b x
wide b x a B e w = rw w at (at_size b (to_unsigned 64 a) x a B e refl)

pub returns-then-limit-n : goal.returns-then-limit-n
returns-then-limit-n c =
    let s = c in
    over _ _ _ _ c.requires c.size_of-a.ensures c.truncating_f64_to_u64-n.ensures c.if-a.true (omega arith)

pub returns-then-a : goal.returns-then-a
returns-then-a c =
    let s = c in
    equal _ _ _ _ c.requires c.size_of-a.ensures c.truncating_f64_to_u64-n.ensures _ c.if-a.true (omega arith) c.nearest_u64_to_f64.ensures

pub returns : goal.returns
returns c = wide _ _ _ c.requires c.size_of-a.ensures c.if-a.false
