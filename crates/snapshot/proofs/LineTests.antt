-- What the tests of a line make of what was read.
use Rattle.std.specs.Prelude.{Option as Answer, Some, None}
use Prim.Native.Nat.{ℕ, ◌≤◌, ◌<◌}
use mathlib.Core.Path.{◌≡◌, refl, sym, ap, ◌∙◌}
use mathlib.Core.Bool.{Bool, true, false}
use mathlib.Core.List.{List}
use mathlib.Core.Option.{Option, none, some}
use lib.Ieee.{Float, binary32}
use borrow.Author.Tests.{le-leb, lt-leb}
use Rattle.trcf.specs.Calls.{finite}
use Rattle.trcf.specs.Preprocessor.{reading}
use Rattle.trcf.specs.declared.types.TransformMethod.{TransformMethod}
use Rattle.snapshot.specs.Read.{as_whole, as_float}
use Rattle.snapshot.specs.Steps.Judge.{placed, with_rest, byte, name, one, fields, closing, list_line, checked, cnt_test, cnt_by, counts_of}
use Rattle.snapshot.specs.Steps.Judge.{timed, buf_test, buf_raw, buf_by}

module _ {A : Type 0} (q : A → Bool) (a : A) (r : Answer ℕ) (t : List ℕ) (o : Option (A × List ℕ)) (e : with_rest a (placed r t) ≡ o) where
  pub check_yes : q a ≡ true → with_rest a (placed r t) ≡ checked q o
  check_yes h = go r ∙ ap (checked q) e
    where
      go : (p : Answer ℕ) → with_rest a (placed p t) ≡ checked q (with_rest a (placed p t))
      go (Some n) = rw h
      go None = refl

  pub check_no : q a ≡ false → none ≡ checked q o
  check_no h = go r ∙ ap (checked q) e
    where
      go : (p : Answer ℕ) → none ≡ checked q (with_rest a (placed p t))
      go (Some n) = rw h
      go None = refl

-- ---- the counters

module _ (m : TransformMethod) (start : ℕ) (l : List ℕ) where
  pub cnt_lineless : none ≡ list_line as_whole 99 110 116 3 l → none ≡ cnt_by m start l
  unfolding cnt_by
  cnt_lineless e = rw (sym e)

  module _ (new z : List ℕ) (e : some (new, z) ≡ list_line as_whole 99 110 116 3 l) where
    pub cnt_good : cnt_test m start (counts_of new) ≡ true → some (counts_of new, z) ≡ cnt_by m start l
    unfolding cnt_by
    cnt_good h = rw (sym e, h)

    pub cnt_bad : cnt_test m start (counts_of new) ≡ false → none ≡ cnt_by m start l
    unfolding cnt_by
    cnt_bad h = rw (sym e, h)

-- ---- one initial value

good : (p time : ℕ) (v : List Float) → p ≤ time → finite v ≡ true → buf_test p (reading v time) ≡ true
unfolding buf_test
good p time v h i = rw (le-leb p time h, i)

module _ (d p : ℕ) (l : List ℕ) where
  pub buf_nameless : none ≡ name 98 117 102 l → none ≡ buf_by d p l
  unfolding buf_by buf_raw
  buf_nameless e = rw (sym e)

  module _ (z : List ℕ) (e : some z ≡ name 98 117 102 l) where
    pub buf_timeless : one as_whole z ≡ none → none ≡ buf_by d p l
    unfolding buf_by buf_raw
    buf_timeless f = rw (sym e, f)

    module _ (time : ℕ) (y : List ℕ) (f : one as_whole z ≡ some (time, y)) where
      at_fields : checked (buf_test p) (closing (timed time (fields (as_float binary32) d y))) ≡ buf_by d p l
      unfolding buf_by buf_raw
      at_fields = rw (sym e, f)

      pub buf_bad : none ≡ fields (as_float binary32) d y → none ≡ buf_by d p l
      buf_bad g = ap (λ (o : Option (List Float × List ℕ)). checked (buf_test p) (closing (timed time o))) g ∙ at_fields

      module _ (v : List Float) (x : List ℕ) (g : some (v, x) ≡ fields (as_float binary32) d y) where
        at_end : checked (buf_test p) (with_rest (reading v time) (byte 10 x)) ≡ buf_by d p l
        at_end = ap (λ (o : Option (List Float × List ℕ)). checked (buf_test p) (closing (timed time o))) g ∙ at_fields

        fails : buf_test p (reading v time) ≡ false → none ≡ buf_by d p l
        fails h = go (byte 10 x) ∙ at_end
          where
            go : (o : Option (List ℕ)) → none ≡ checked (buf_test p) (with_rest (reading v time) o)
            go none = refl
            go (some w) = rw h

        pub buf_early : time < p → none ≡ buf_by d p l
        unfolding buf_test
        buf_early h = fails (rw (lt-leb p time h))

        pub buf_infinite : p ≤ time → finite v ≡ false → none ≡ buf_by d p l
        unfolding buf_test
        buf_infinite h i = fails (rw (le-leb p time h, i))

        pub buf_endless : none ≡ byte 10 x → none ≡ buf_by d p l
        buf_endless q = ap (λ (o : Option (List ℕ)). checked (buf_test p) (with_rest (reading v time) o)) q ∙ at_end

        pub buf_good : p ≤ time → finite v ≡ true → (w : List ℕ) → some w ≡ byte 10 x → some (reading v time, w) ≡ buf_by d p l
        buf_good h i w q = rw (good p time v h i) at (ap (λ (o : Option (List ℕ)). checked (buf_test p) (with_rest (reading v time) o)) q ∙ at_end)
