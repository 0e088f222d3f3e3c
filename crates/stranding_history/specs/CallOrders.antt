-- Request #110 over the history itself: which calls an order of calls stands for, what the entries show after them, and the statement.
use Rattle.std.specs.Prelude.{ℕ, ◌+◌, ◌^◌, ◌≡◌, Bool, true, cond, ◌||◌, List, [], ◌∷◌, ltb, eqb, pos, length, replicate, Float}
use Rattle.std.proofs.Math.Option.{none, some}
use Rattle.trcf.specs.Fit.{All}
use Rattle.trcf.specs.Transformer.{zero32}
use Rattle.trcf.specs.Settings.{Settings, block, dimension}
use Rattle.trcf.specs.Calls.{Learn, Call, shingled_point, post_process, drain as drainCall, newest, Machine}
use Rattle.restart.specs.History.{Entry, initials, learns, is_drained, history_facts, history_refusal, enter, entries}
use Rattle.stranding.specs.Orders.{Kind, point_kind, learn_kind, drain_kind}
use Rattle.stranding.specs.Standing.{Standing, still_waiting, now_drained, now_stranded}
use Rattle.stranding.specs.Counts.{counts_by, strandings_of}

-- ---- what the entries show

-- an L stands, one being enough
unfoldable pub has_learned : List Entry → Bool
has_learned es = ltb 0 (length (learns es))

-- Document 01: "W's without F wait. An L before F strands them for good."
unfoldable pub standing_of : List Entry → Standing
standing_of es = cond (is_drained es) now_drained (cond (has_learned es) now_stranded (still_waiting (length (initials es))))

-- ---- the calls of an order

-- "accepted point, accepted learn with a forest point, drain": which calls are of the kind
pub data Of : Kind → Call → Type 0 where
  a_point : (x : List Float) (t : ℕ) (out : List Float) → Of point_kind (shingled_point x t out)
  a_learn : (l : Learn) (y : List Float) → l.rcf_point ≡ some y → Of learn_kind (post_process l)
  a_drain : Of drain_kind drainCall

-- the rows with which a call of the kind counts, 0 for accepted: "A drain met by row 15 still counts as a call."
abbrev pub is_counted : Kind → ℕ → Bool
is_counted point_kind row = eqb row 0
is_counted learn_kind row = eqb row 0
is_counted drain_kind row = eqb row 0 || eqb row 15

-- calls after the entries es, one of each kind of the order, with any arguments with which it counts where it stands
pub data Calls (s : Settings) : List Entry → List Kind → List Call → Type 0 where
  end : {es : List Entry} → Calls s es [] []
  then : {es : List Entry} {x : Kind} {c : Call} {xs : List Kind} {cs : List Call}
      → Of x c → is_counted x (history_refusal s es c) ≡ true → Calls s (enter s es c) xs cs → Calls s es (x ∷ xs) (c ∷ cs)

-- ---- such calls for any order: zeros, at the newest time

abbrev pub zero_learn : Settings → List Entry → Learn
zero_learn s es =
    record {
      input = replicate s.d zero32;
      timestamp = newest (history_facts s es);
      rcf_point = some (replicate (dimension s) zero32);
      expected_point = none;
      grade = zero32;
      relative_index = pos 0;
      deviations_out = replicate (block s) zero32;
      past_out = [];
      expected_out = [];
    }

abbrev pub zero_call : Settings → List Entry → Kind → Call
zero_call s es point_kind = shingled_point (replicate s.d zero32) (newest (history_facts s es)) (replicate (dimension s) zero32)
zero_call s es learn_kind = post_process (zero_learn s es)
zero_call s es drain_kind = drainCall

abbrev pub zero_calls : Settings → List Entry → List Kind → List Call
zero_calls s es [] = []
zero_calls s es (x ∷ xs) = zero_call s es x ∷ zero_calls s (enter s es (zero_call s es x)) xs

-- ---- the statement

-- "The three counts equal those over all 3^n lists run on the history sheet, and so add up to 3^n."
pub record Strandings (s : Settings) (n : ℕ) : Type 0 where
  -- every order of n calls has arguments with which its calls count, and the program can be given them
  pub some_arguments : (w : List Kind) → length w ≡ n → Calls s [] w (zero_calls s [] w) × All Machine (zero_calls s [] w)
  -- what an order leaves is the same with all such arguments
  pub any_arguments : (w : List Kind) (cs ds : List Call) → Calls s [] w cs → Calls s [] w ds → standing_of (entries s cs) ≡ standing_of (entries s ds)
  -- with whatever such arguments for each of the 3^n orders, the numbers are the answer of `strandings`
  pub counts : (calls : List Kind → List Call) → ((w : List Kind) → length w ≡ n → Calls s [] w (calls w))
      → counts_by (λ (w : List Kind). standing_of (entries s (calls w))) n ≡ strandings_of s.start n
  -- "and so add up to 3^n"
  pub sum : (strandings_of s.start n).waiting + ((strandings_of s.start n).drained + (strandings_of s.start n).stranded) ≡ 3 ^ n
