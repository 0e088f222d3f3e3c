-- One step of the reading for each line of the plan: what the code reads of the line, and the reading after it.
use Prim.Native.Nat.{ℕ, suc, ◌*◌}
use mathlib.Core.Path.{◌≡◌, refl}
use mathlib.Core.List.{List, ◌∷◌, ◌++◌}
use mathlib.Core.Option.{none}
use lib.Ieee.{Float, binary32}
use Rattle.trcf.specs.Settings.{Settings, dimension}
use Rattle.trcf.specs.Preprocessor.{State}
use Rattle.snapshot.specs.Text.{chn, chn_line, cnt_line}
use Rattle.snapshot.specs.Read.{lines, as_float, Counts, set_kind, wgt_kind, cnt_kind, dev_kind, inp_kind, pnt_kind, tim_kind, buf_kind, Plan, bufs_plan}
use Rattle.snapshot.specs.Read.{devs_plan, chn_kind, third_kind, bare, after_set, after_wgt, after_third, after_chn, after_cnt, after_dev, after_inp, after_pnt}
use Rattle.snapshot.specs.Read.{after_tim, later, follow, read}
use Rattle.snapshot.specs.Steps.Judge.{list_line, via, either_of, set_by, wgt_by, chn_by, cnt_by, dev_by, tim_by, buf_by}
use Rattle.snapshot.proofs.JudgeLines.{step}
use Rattle.snapshot.proofs.JudgeKinds.{wgt_reads, chn_reads, either_reads, cnt_reads, dev_reads, inp_reads, pnt_reads, tim_reads, buf_reads}
use Rattle.snapshot.proofs.JudgeSettings.{set_reads}

pub step_set : (t : List ℕ) → read t ≡ via (set_by t) (λ s z. later (follow (after_set s) (lines z)))
unfolding read
step_set t = step set_kind set_by set_reads after_set t

module _ (s : Settings) (l : List ℕ) where
  pub step_wgt : follow (after_set s) (lines l) ≡ via (wgt_by s.method s.d l) (λ v z. later (follow (after_wgt s v) (lines z)))
  step_wgt = step (wgt_kind s) (wgt_by s.method s.d) (wgt_reads s) (after_wgt s) l

  pub step_third : (v : List Float) → follow (after_wgt s v) (lines l) ≡ via (either_of (chn_by s.d l) (cnt_by s.method s.start l)) (λ o z. later (follow (after_third s v o) (lines z)))
  unfolding chn_by list_line chn_line cnt_line
  step_third v =
      step (third_kind s v) (λ x. either_of (chn_by s.d x) (cnt_by s.method s.start x))
      (either_reads chn (chn_kind s) (cnt_kind (bare s v)) (chn_by s.d) (cnt_by s.method s.start) (λ a. refl) (λ c. refl) (λ c z. refl) (chn_reads s) (cnt_reads (bare s v))) (after_third s v) l

  pub step_cnt : follow (after_chn s) (lines l) ≡ via (cnt_by s.method s.start l) (λ c z. later (follow (after_cnt s c) (lines z)))
  step_cnt = step (cnt_kind s) (cnt_by s.method s.start) (cnt_reads s) (after_cnt s) l

  module _ (c : Counts) (st : List Float) where
    pub step_inp : follow (after_dev s c st) (lines l) ≡ via (list_line (as_float binary32) 105 110 112 (s.d * s.k) l) (λ x z. later (follow (after_inp s c st x) (lines z)))
    step_inp = step (inp_kind s) (list_line (as_float binary32) 105 110 112 (s.d * s.k)) (inp_reads s) (after_inp s c st) l

    pub step_pnt : (x : List Float) → follow (after_inp s c st x) (lines l) ≡ via (list_line (as_float binary32) 112 110 116 (dimension s) l) (λ y z. later (follow (after_pnt s c st x y) (lines z)))
    step_pnt x = step (pnt_kind s) (list_line (as_float binary32) 112 110 116 (dimension s)) (pnt_reads s) (after_pnt s c st x) l

    pub step_tim : (x y : List Float) → follow (after_pnt s c st x y) (lines l) ≡ via (tim_by c.internal_timestamp s.k l) (λ ts z. later (follow (after_tim s c st x y ts) (lines z)))
    step_tim x y = step (tim_kind s c) (tim_by c.internal_timestamp s.k) (tim_reads s c) (after_tim s c st x y) l

pub step_dev : (n : ℕ) (k : List Float → Plan) (l : List ℕ)
    → follow (devs_plan (suc n) k) (lines l) ≡ via (dev_by l) (λ a z. later (follow (devs_plan n (λ st. k (a.weight ∷ a.sum ∷ a.squares ∷ st))) (lines z)))
step_dev n k l = step dev_kind dev_by dev_reads (λ a. devs_plan n (λ st. k (a.weight ∷ a.sum ∷ a.squares ∷ st))) l

pub step_buf : (d p n : ℕ) (k : List Float → List ℕ → State) (l : List ℕ)
    → follow (bufs_plan none d p (suc n) k) (lines l) ≡ via (buf_by d p l) (λ r z. later (follow (bufs_plan none d r.time n (λ v ts. k (r.value ++ v) (r.time ∷ ts))) (lines z)))
step_buf d p n k l = step (buf_kind d p) (buf_by d p) (buf_reads d p) (λ r. bufs_plan none d r.time n (λ v ts. k (r.value ++ v) (r.time ∷ ts))) l
