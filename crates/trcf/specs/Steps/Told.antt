-- What `status` tells of a head, from the head itself.
use Rattle.std.specs.Prelude.{List, Float}
use Rattle.trcf.specs.Preprocessor.{Status, panel_of}
use Rattle.trcf.specs.View.{alone, ready_of, dimension_of}
use Rattle.trcf.specs.declared.head.Preprocessor.{Preprocessor}

-- of a head that is not refused, and with the deviations `out`
abbrev pub told_by : Preprocessor → List Float → Status
told_by h out =
    record {
      values_seen = h.values_seen;
      internal_timestamp = h.internal_timestamp;
      ready = ready_of h;
      input_dimensions = h.transformer.input_length;
      shingle_size = h.shingle_size;
      dimensions = dimension_of h;
      method = h.transformer.transform_method;
      mode = h.forest_mode;
      start = h.start_normalization;
      panel = panel_of (alone h);
      deviations_out = out;
    }
