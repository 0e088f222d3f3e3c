-- `snapshot_restore::restore::is_short` meets its contract. Assumes nothing.
use mathlib.Core.Path.{◌∙◌}
use Rattle.trcf.specs.Types.{augments}
use Rattle.trcf.specs.View.{settings_of, initial_room}
use Rattle.snapshot_restore.proofs.RestoreLaws.{short_past}
use Rattle.snapshot_restore.proofs.restore.is_short.Goals as goal

pub returns : goal.returns
returns c =
    let n = c.initial_room-waiting in
    let a = c.args in
    let h = a.head in
    c.is_past.ensures
    ∙ short_past (augments h.forest_mode) c.time_width-wide.result n.result (initial_room (settings_of h)) h.transformer.input_length h.shingle_size
    _ _ _ _ _ _ c.time_width-wide.ensures n.ensures.value
