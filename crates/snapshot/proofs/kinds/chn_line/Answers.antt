-- `snapshot::kinds::chn_line` meets its contract. Assumes nothing.
use Prim.Native.Nat.{ℕ}
use native.Mathlib.Omega.{arith}
use mathlib.Core.Path.{◌≡◌, sym, ap, ◌∙◌}
use lib.ListN.{length, drop, replicate}
use lib.Seq.{length-take-le}
use Rattle.snapshot.proofs.JudgeLaws.{got_one, lost_one}
use Rattle.snapshot.proofs.CodeLaws.{none_or, none_over, some_or, codes_pass, front_fits, front_is}
use Rattle.refusal.specs.Lent.{over}
use Rattle.snapshot.specs.Read.{all_codes}
use Rattle.snapshot.proofs.kinds.chn_line.Goals as goal

pub slice_bounds-chn_codes-end : goal.slice_bounds-chn_codes-end
slice_bounds-chn_codes-end c = sym (length-take-le c.args.d (replicate {A = ℕ} 16 0) c.requires)

pub returns-in_default : goal.returns-in_default
returns-in_default c =
    let at-args = c.args in
    let at_pre = c.requires in
    let d = at-args.d in
    let t = at-args.text.now in
    let C = c.chn_codes in
    let v = C.new.out in
    let m = length-take-le d (replicate {A = ℕ} 16 0) (at_pre) in
    let n : length v ≡ d = C.ensures.kept ∙ m in
    record { text_value = none_or d _ (drop at-args.at t) (at_pre) m (lost_one C.result t v _ c.in_default.is C.ensures.told); codes_value = none_over d (at_pre); extra_bound = omega arith }

pub slice_bounds-w-end-2 : goal.slice_bounds-w-end-2
slice_bounds-w-end-2 c =
    let d = c.args.d in
    let t = c.args.text.now in
    let C = c.chn_codes in
    let v = C.new.out in
    let m = length-take-le d (replicate {A = ℕ} 16 0) c.requires in
    let n : length v ≡ d = C.ensures.kept ∙ m in
    front_fits v _ d n

pub slice_bounds-narrowed-end : goal.slice_bounds-narrowed-end
slice_bounds-narrowed-end c =
    let d = c.args.d in
    let t = c.args.text.now in
    let C = c.chn_codes in
    let v = C.new.out in
    let m = length-take-le d (replicate {A = ℕ} 16 0) c.requires in
    let n : length v ≡ d = C.ensures.kept ∙ m in
    sym (ap length (front_is v (drop d (replicate {A = ℕ} 16 0)) d n) ∙ n)

pub narrowed-own-requires : goal.narrowed-own-requires
narrowed-own-requires c =
    let at-args = c.args in
    let at_pre = c.requires in
    let d = at-args.d in
    let t = at-args.text.now in
    let C = c.chn_codes in
    let v = C.new.out in
    let m = length-take-le d (replicate {A = ℕ} 16 0) (at_pre) in
    let n : length v ≡ d = C.ensures.kept ∙ m in
    let q = got_one C.result t v _ c.in-Some.p c.in-Some.is C.ensures.told in
    let f = front_is v (drop d (replicate {A = ℕ} 16 0)) d n in
    record { w_len_bound = omega (arith, ap length f, n, at_pre); w_value = ap all_codes f ∙ codes_pass _ (drop at-args.at t) v (drop c.in-Some.p t) q }

pub returns : goal.returns
returns c =
    let at-args = c.args in
    let d = at-args.d in
    let t = at-args.text.now in
    let C = c.chn_codes in
    let v = C.new.out in
    let m = length-take-le d (replicate {A = ℕ} 16 0) c.requires in
    let n : length v ≡ d = C.ensures.kept ∙ m in
    let q = got_one C.result t v _ c.in-Some.p c.in-Some.is C.ensures.told in
    let r = some_or d _ _ _ v c.narrowed-own.result m n q (c.narrowed-own.ensures ∙ ap (over (replicate 16 0)) (front_is v (drop d (replicate {A = ℕ} 16 0)) d n)) in
    record { text_value = r.0; codes_value = r.1; extra_bound = omega arith }
