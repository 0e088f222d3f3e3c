-- `snapshot::head::head_lines` meets its contract. Assumes nothing.
use mathlib.Core.Path.{sym, ap, ◌∙◌, subst}
use lib.ListN.{take, drop}
use lib.Seq.{length-take-le}
use Rattle.trcf.specs.declared.head.Preprocessor.{Preprocessor}
use Rattle.snapshot.specs.Steps.Judge.{settings_told, counts_read, codes_read}
use Rattle.snapshot.specs.Steps.Runs.{Ran, ran, Head, headed_of, HeadFew, map_ran}
use Rattle.snapshot.proofs.HeadLaws.{head_set, head_wgt, head_cnt, head_all, head_is, set_few}
use Rattle.snapshot.proofs.head.head_lines.Goals as goal

pub returns-in_default-clause-text_value : goal.returns-in_default-clause-text_value
returns-in_default-clause-text_value c = ap (λ (r : Ran Head). map_ran headed_of r) (head_set c.args.text.now c.in_default.ensures)

pub slice_bounds-weights-end : goal.slice_bounds-weights-end
slice_bounds-weights-end c = (set_few c.args.text.now (settings_told c.in-Some.set) _ c.in-Some.ensures).d_few

pub slice_bounds-wgt_line-end : goal.slice_bounds-wgt_line-end
slice_bounds-wgt_line-end c = sym (length-take-le c.in-Some.set.d _ (set_few c.args.text.now (settings_told c.in-Some.set) _ c.in-Some.ensures).d_few)

pub returns-in_default-wgt_line-clause-text_value : goal.returns-in_default-wgt_line-clause-text_value
returns-in_default-wgt_line-clause-text_value c =
    let t = c.args.text.now in
    let e = c.in-Some.ensures in
    ap (λ (r : Ran Head). map_ran headed_of r) (head_wgt t (settings_told c.in-Some.set) _ e _ c.in_default-wgt_line.ensures.told
    (length-take-le c.in-Some.set.d _ (set_few t (settings_told c.in-Some.set) _ e).d_few))

pub chn_line-third-requires : goal.chn_line-third-requires
chn_line-third-requires c = (set_few c.args.text.now (settings_told c.in-Some.set) _ c.in-Some.ensures).d_few

pub returns-in_default-cnt_line-clause-text_value : goal.returns-in_default-cnt_line-clause-text_value
returns-in_default-cnt_line-clause-text_value c =
    let t = c.args.text.now in
    let s = c.in-Some.set in
    let e = c.in-Some.ensures in
    let N = c.chn_line-third in
    ap (λ (r : Ran Head). map_ran headed_of r)
    (head_cnt t (settings_told s) _ e _ _ _ c.in-Some-wgt_line.ensures.told (length-take-le s.d _ (set_few t (settings_told s) _ e).d_few)
    (codes_read N.result.extra (take s.d N.result.codes) (drop N.result.at t)) N.ensures.text_value c.in_default-cnt_line.ensures)

pub returns : goal.returns
returns c =
    let t = c.args.text.now in
    let s = c.in-Some.set in
    let e = c.in-Some.ensures in
    let W = c.wgt_line in
    let f = c.in-Some-wgt_line.ensures in
    let N = c.chn_line-third in
    let k = c.in-Some-cnt_line.counters in
    let h = c.head_with-head.ensures ∙ head_is (settings_told s) W.new.out (take s.d N.result.codes) N.result.codes
    (counts_read k.seen k.internal k.count) N.result.extra
    (f.kept ∙ length-take-le s.d _ (set_few t (settings_told s) _ e).d_few) N.ensures.codes_value in record {
      text_value = ap (λ (p : Preprocessor). ran (p, N.result.extra) (drop k.end t)) h
          ∙ ap (λ (r : Ran Head). map_ran headed_of r) (head_all t (settings_told s) _ e _ _ _ f.told (length-take-le s.d _ (set_few t (settings_told s) _ e).d_few)
          (codes_read N.result.extra (take s.d N.result.codes) (drop N.result.at t)) N.ensures.text_value _ _ c.in-Some-cnt_line.ensures);
      head_few = subst HeadFew (sym c.head_with-head.ensures) (set_few t (settings_told s) _ e);
      extra_bound = N.ensures.extra_bound;
    }
