-- `settling::signal::value_at` meets its contract. Assumes nothing.
use native.Mathlib.Omega.{arith}
use Rattle.std.proofs.lemmas.Int.{ints}
use Rattle.settling.proofs.SignalLaws.{limited, held_whole, parts, reading_is}
use Rattle.settling.proofs.signal.value_at.Goals as goal

pub times-requires-clause-size_bound : goal.times-requires-clause-size_bound
times-requires-clause-size_bound c =
    let l = limited c.args.g c.requires.g_value in
    rw (held_whole c.args.g.ramp l.ramp) l.ramp

pub overflow_add-value : goal.overflow_add-value
overflow_add-value c =
    let p = parts c.args.g c.times.result c.only_if-ripple.result c.only_if-jump.result c.requires.g_value c.times.ensures.size_bound
    c.only_if-ripple.ensures.size_le_size c.only_if-jump.ensures.size_le_size in
    omega (arith, ints)

pub overflow_add-value-2 : goal.overflow_add-value-2
overflow_add-value-2 c =
    let p = parts c.args.g c.times.result c.only_if-ripple.result c.only_if-jump.result c.requires.g_value c.times.ensures.size_bound
    c.only_if-ripple.ensures.size_le_size c.only_if-jump.ensures.size_le_size in
    omega (arith, ints)

pub overflow_add-value-3 : goal.overflow_add-value-3
overflow_add-value-3 c =
    let p = parts c.args.g c.times.result c.only_if-ripple.result c.only_if-jump.result c.requires.g_value c.times.ensures.size_bound
    c.only_if-ripple.ensures.size_le_size c.only_if-jump.ensures.size_le_size in
    omega (arith, ints)

pub overflow_cast-value : goal.overflow_cast-value
overflow_cast-value c =
    let p = parts c.args.g c.times.result c.only_if-ripple.result c.only_if-jump.result c.requires.g_value c.times.ensures.size_bound
    c.only_if-ripple.ensures.size_le_size c.only_if-jump.ensures.size_le_size in
    omega (arith, ints)

pub returns : goal.returns
returns c =
    let p = parts c.args.g c.times.result c.only_if-ripple.result c.only_if-jump.result c.requires.g_value c.times.ensures.size_bound
    c.only_if-ripple.ensures.size_le_size c.only_if-jump.ensures.size_le_size in
    reading_is c.args.g c.args.i c.requires.g_value _ _ _ _ c.times.ensures.value c.only_if-ripple.ensures.value c.only_if-jump.ensures.value
    (omega (arith, ints)) _ c.nearest_i64_to_f32.ensures
