-- `trcf::feeding::feed_fitting` meets its contract: by its callees' promises and the laws of lists. Assumes nothing.
use mathlib.Core.Path.{◌∙◌}
use Rattle.common.proofs.DeviationLaws.{next_factor_lem}
use Rattle.trcf.specs.Preprocessor.{feed, time_fed}
use borrow.Author.Rules.{rules}
use Rattle.trcf.proofs.feeding.feed_fitting.Goals as goal

pub update_channels-requires : goal.update_channels-requires
update_channels-requires c = let first = c in
    let h = c.requires.count_lt_count_limit in
    record {
      sound = search rules;
      count_lt_count_limit = h;
      input_len = search rules;
      previous_len = search rules;
      f_value = c.next_factor-f.ensures ∙ next_factor_lem _ _ h;
      g_value = c.next_factor-g.ensures ∙ next_factor_lem _ _ h;
    }

pub feed_at-requires : goal.feed_at-requires
feed_at-requires c = let made = c in
    let first = c in
    let h = c.requires.count_lt_count_limit in
    record { w_in_bounds = search rules; count_lt_count_limit = h; f_value = c.next_factor-f.ensures ∙ next_factor_lem _ _ h; g_value = c.next_factor-g.ensures ∙ next_factor_lem _ _ h }

pub returns : goal.returns
unfolding feed time_fed
returns c =
    let c8 = c in
    rw (
      c.feed_at.ensures,
      c.update_channels.ensures,
      c.u64_to_f64-x.ensures,
      c.u64_to_f64-dx.ensures,
      c.since.ensures,
    )
