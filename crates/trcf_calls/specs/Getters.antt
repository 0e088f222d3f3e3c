-- What the getters say of a head, together.
use Rattle.trcf.specs.Preprocessor.{panel_of}
use Rattle.trcf.specs.View.{alone, ready_of, dimension_of}
use Rattle.trcf.specs.declared.head.Preprocessor.{Preprocessor}
use Rattle.trcf.specs.declared.head.Status.{Status}

abbrev pub status_of_head : Preprocessor → Status
status_of_head h =
    record {
      values_seen = h.values_seen;
      internal_timestamp = h.internal_timestamp;
      ready = ready_of h;
      input_dimensions = h.transformer.input_length;
      shingle_size = h.shingle_size;
      dimensions = dimension_of h;
      transform_method = h.transformer.transform_method;
      forest_mode = h.forest_mode;
      start_normalization = h.start_normalization;
      panel = panel_of (alone h);
    }
