-- `settling::run::readings` meets its contract. Assumes nothing.
use mathlib.Core.Path.{refl}
use native.Mathlib.Omega.{arith}
use Prim.Native.Nat.{ℕ}
use mathlib.Core.List.{[], ◌∷◌}
use lib.ListN.{length-replicate}
use Rattle.common.specs.Deviation.{zero64}
use Rattle.trcf.specs.Transformer.{zero32}
use Rattle.trcf.specs.View.{settings_from}
use Rattle.settling.specs.Steps.{signal_of}
use Rattle.settling.proofs.SignalLaws.{limited}
use Rattle.settling.proofs.StepLaws.{begun, track_again, track_done}
use Rattle.settling.proofs.run.readings.Goals as goal

pub loop-i-init : goal.loop-i-init
loop-i-init c =
    let k = c.build-built in (
      refl,
      record {
        statistics = omega (arith, k.auto, length-replicate 30 zero64);
        input = omega (arith, k.auto, length-replicate 64 zero32);
        point = omega (arith, k.auto, length-replicate 128 zero32);
        times = omega (arith, k.auto, length-replicate {A = ℕ} 64 0);
        values = length-replicate 1999 zero32;
        initial = length-replicate {A = ℕ} 1999 0;
      },
    )

pub slice_bounds-step-end : goal.slice_bounds-step-end
slice_bounds-step-end c = omega (arith, c.loop-i.invariant.1.statistics)

pub slice_bounds-step-end-in-loop-i : goal.slice_bounds-step-end-in-loop-i
slice_bounds-step-end-in-loop-i c = omega (arith, c.loop-i.invariant.1.input)

pub slice_bounds-step-end-in-loop-i-2 : goal.slice_bounds-step-end-in-loop-i-2
slice_bounds-step-end-in-loop-i-2 c = omega (arith, c.loop-i.invariant.1.point)

pub slice_bounds-step-end-in-loop-i-3 : goal.slice_bounds-step-end-in-loop-i-3
slice_bounds-step-end-in-loop-i-3 c = omega (arith, c.loop-i.invariant.1.times)

pub slice_bounds-step-end-in-loop-i-4 : goal.slice_bounds-step-end-in-loop-i-4
slice_bounds-step-end-in-loop-i-4 c = omega (arith, c.loop-i.invariant.1.values)

pub slice_bounds-step-end-in-loop-i-5 : goal.slice_bounds-step-end-in-loop-i-5
slice_bounds-step-end-in-loop-i-5 c = omega (arith, c.loop-i.invariant.1.initial)

pub value_at-requires : goal.value_at-requires
value_at-requires c =
    record {
      g_value = c.requires;
      i_bound = omega (arith, (limited c.args.signal c.requires).readings);
    }

pub loop-i-preserved : goal.loop-i-preserved
loop-i-preserved c =
    let at-step = c.step-t in
    let l = c.loop-i in
    let k = at-step.auto in
    let z = l.invariant.1 in (
      track_again (signal_of c.args.signal) _ l.i l.head _ _ l.invariant.0 _ c.value_at.ensures _ _ _ at-step.ensures _
          c.is_ready.ensures _ c.note_reading-s.ensures,
      record {
        statistics = omega (arith, k, z.statistics);
        input = omega (arith, k, z.input);
        point = omega (arith, k, z.point);
        times = omega (arith, k, z.times);
        values = omega
            (arith, k, z.values);
        initial = omega (arith, k, z.initial);
      },
    )

pub returns : goal.returns
returns c =
    let a = c.args in
    let l = c.loop-i in
    track_done (settings_from a.builder (a.weight ∷ []) (0 ∷ [])) (signal_of a.signal) _
    (begun (settings_from a.builder (a.weight ∷ []) (0 ∷ [])) c.build-built.result c.unwrap_or-head.result _ c.no_head.ensures
    c.unwrap_or-head.ensures c.build-built.ensures) l.i a.signal.readings (omega arith) l.head _ _
    l.invariant.0
