-- The loop that writes: what holds before each turn, and what a turn does to it.
use Prim.Native.Nat.{ℕ, ◌+◌, ◌*◌, ◌≤◌, ◌<◌}
use mathlib.Core.Path.{◌≡◌, refl, ap, ◌∙◌}
use mathlib.Core.List.{List, []}
use native.Mathlib.Omega.{arith}
use lib.ListN.{length, set, take, replicate, length-set, length-map}
use lib.Seq.{take-length}
use lib.Ieee.{Float}
use Rattle.refusal.specs.Lent.{over}
use Rattle.series.specs.Pairs.{Pair, pairs, lefts, rights}
use Rattle.series.specs.Gaps.{zero32, gaps}
use Rattle.series.specs.Steps.Comparing.{widened}
use Rattle.series.specs.Steps.Walking.{rest, NextPair}
use Rattle.series.proofs.AlignmentLaws.Walk.{Walked, start, all_made, met}
use Rattle.series.proofs.AlignmentLaws.Written.{part, part_none, part_all, part_more}
use Rattle.series.proofs.AlignmentLaws.Comparing.{gaps_none, gaps_one_more, widened_length}

-- cells and times of the two lists, the tolerance, the outputs as they were lent
pub record Lists : Type 0 where
  pub d : ℕ
  pub left : List Float
  pub left_times : List ℕ
  pub right : List Float
  pub right_times : List ℕ
  pub tolerance : ℕ
  pub left_out : List ℕ
  pub right_out : List ℕ

abbrev pub lists : ℕ → List Float → List ℕ → List Float → List ℕ → ℕ → List ℕ → List ℕ → Lists
lists d l lt r rt w lo ro =
    record { d = d; left = l; left_times = lt; right = r; right_times = rt; tolerance = w; left_out = lo; right_out = ro }

abbrev pub all : Lists → List Pair
all s = pairs s.tolerance s.left_times s.right_times

pub record Fitting (s : Lists) : Type 0 where
  pub left : length s.left ≡ length s.left_times * s.d
  pub right : length s.right ≡ length s.right_times * s.d
  pub left_room : length (all s) ≤ length s.left_out
  pub right_room : length (all s) ≤ length s.right_out

-- n pairs are behind the loop, the fronts are i and j
pub record Compared (s : Lists) (lo ro : List ℕ) (g : List Float) (n i j : ℕ) : Type 0 where
  pub fitting : Fitting s
  pub walked : Walked s.tolerance s.left_times s.right_times n i j
  pub left_is : lo ≡ part s.left_out (lefts (all s)) n
  pub right_is : ro ≡ part s.right_out (rights (all s)) n
  pub gaps_are : g ≡ gaps s.d s.left s.right (take n (all s))
  pub left_length : length lo ≡ length s.left_out
  pub right_length : length ro ≡ length s.right_out
  pub gaps_length : length g ≡ s.d

pub compared_start : (s : Lists) (g : List Float) → Fitting s → g ≡ replicate s.d zero32 → length g ≡ s.d
    → Compared s s.left_out s.right_out g 0 0 0
compared_start s g f e h =
    record {
      fitting = f;
      walked = start s.tolerance s.left_times s.right_times;
      left_is = part_none s.left_out (lefts (all s));
      right_is = part_none s.right_out (rights (all s));
      gaps_are = e ∙ gaps_none s.d s.left s.right;
      left_length = refl;
      right_length = refl;
      gaps_length = h;
    }

module _ (s : Lists) (lo ro : List ℕ) (g : List Float) (n f h : ℕ) (q : Compared s lo ro g n f h)
    (i j : ℕ) (p : NextPair s.tolerance s.left_times s.right_times f h i j) where
  -- the pair's cells begin at a and at b
  pub compared_more : (a b : ℕ) (k : List Float) → a ≡ i * s.d → b ≡ j * s.d → k ≡ widened s.left a s.right b g
      → Compared s (set lo n i) (set ro n j) k (n + 1) (i + 1) (j + 1)
  compared_more a b k ea eb e =
      let m = met s.tolerance s.left_times s.right_times n f h i j q.walked p in
      let t = q.fitting in
      let ps = all s in
      let hl : n < length (lefts ps) = simp length-map m.room in
      let hr : n < length (rights ps) = simp length-map m.room in
      record {
        fitting = t;
        walked = m.on;
        left_is = rw q.left_is (part_more s.left_out (lefts ps) n 0 hl (omega (arith, m.room, t.left_room)) i m.left_is);
        right_is = rw q.right_is (part_more s.right_out (rights ps) n 0 hr (omega (arith, m.room, t.right_room)) j m.right_is);
        gaps_are = e
            ∙ ap (λ (x : ℕ). widened s.left x s.right b g) ea
            ∙ ap (λ (x : ℕ). widened s.left (i * s.d) s.right x g) eb
            ∙ ap (widened s.left (i * s.d) s.right (j * s.d)) q.gaps_are
            ∙ gaps_one_more s.d s.left s.right ps n i j m.room m.pair_is;
        left_length = simp length-set q.left_length;
        right_length = simp length-set q.right_length;
        gaps_length = ap length e ∙ widened_length s.left a s.right b g ∙ q.gaps_length;
      }

-- all pairs are made
pub record Finished (s : Lists) (lo ro : List ℕ) (g : List Float) : Type 0 where
  pub left : lo ≡ over s.left_out (lefts (all s))
  pub right : ro ≡ over s.right_out (rights (all s))
  pub gaps_are : g ≡ gaps s.d s.left s.right (all s)

pub finished : (s : Lists) (lo ro : List ℕ) (g : List Float) (n i j : ℕ) → Compared s lo ro g n i j
    → rest s.tolerance s.left_times s.right_times i j ≡ [] → Finished s lo ro g
finished s lo ro g n i j q z =
    let e = all_made s.tolerance s.left_times s.right_times n i j q.walked z in
    record {
      left = q.left_is ∙ part_all s.left_out (lefts (all s)) n (simp length-map e);
      right = q.right_is ∙ part_all s.right_out (rights (all s)) n (simp length-map e);
      gaps_are = q.gaps_are ∙ ap (gaps s.d s.left s.right) (ap (λ (k : ℕ). take k (all s)) e ∙ take-length (all s));
    }
