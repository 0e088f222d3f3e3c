-- The line of the settings as the code meets it.
use Prim.Native.Nat.{ℕ, ◌+◌, ◌≤◌, ◌<◌}
use mathlib.Core.Path.{◌≡◌, sym, ap, ◌∙◌}
use mathlib.Core.Bool.{true, false}
use mathlib.Core.List.{List}
use mathlib.Core.Option.{Option, none, some}
use lib.ListN.{length, drop, get_or, drop_of_length-le}
use lib.Seq.{drop-cons, drop-drop}
use lib.Ieee.{Float, binary32, binary64}
use Rattle.trcf.specs.Types.{mode_of_letter}
use Rattle.snapshot.specs.Read.{as_whole, as_float}
use Rattle.trcf.specs.declared.types.ForestMode.{ForestMode}
use Rattle.trcf.specs.declared.types.TransformMethod.{TransformMethod}
use Rattle.snapshot.specs.Steps.Judge.{onto, with_rest, byte, name, one, fields, mode_named, mode_in, method_in, set_test, tail_by, settings_with, settings_if_read, set_by}

module _ (t : List ℕ) (i : ℕ) where
  -- a letter, judged by the mode that it names
  pub mode_named_lem : (m : ForestMode) → i < length t → m ≡ mode_of_letter (get_or t i 0) → mode_named m ≡ mode_in (drop i t)
  mode_named_lem m h e = ap mode_named e ∙ sym (ap mode_in (drop-cons t i 0 h))

  pub mode_end : length t ≤ i → none ≡ mode_in (drop i t)
  mode_end h = rw (drop_of_length-le t h)

module _ (l : List ℕ) where
  pub tail_first : one (as_float binary64) l ≡ none → none ≡ tail_by l
  unfolding tail_by
  tail_first e = rw e

  module _ (y : Float) (z : List ℕ) (e : one (as_float binary64) l ≡ some (y, z)) where
    pub tail_second : one (as_float binary32) z ≡ none → none ≡ tail_by l
    unfolding tail_by
    tail_second f = rw (e, f)

    pub tail_good : (x : Float) (w : List ℕ) (o : Option (List ℕ)) → one (as_float binary32) z ≡ some (x, w) → o ≡ byte 10 w → with_rest (y, x) o ≡ tail_by l
    unfolding tail_by
    tail_good x w o f q = rw (e, f, q)

-- ---- the whole line, where it ends

module _ (t : List ℕ) where
  pub set_nameless : none ≡ name 115 101 116 t → none ≡ set_by t
  unfolding set_by
  set_nameless e = rw (sym e)

  module _ (z : List ℕ) (e : some z ≡ name 115 101 116 t) where
    pub set_tabless : none ≡ byte 9 z → none ≡ set_by t
    unfolding set_by
    set_tabless f = rw (sym e, sym f)

    module _ (q : ℕ) (f : some (drop q t) ≡ byte 9 z) where
      pub set_modeless : none ≡ mode_in (drop q t) → none ≡ set_by t
      unfolding set_by
      set_modeless g = rw (sym e, sym f, sym g)

      module _ (m : ForestMode) (g : some m ≡ mode_in (drop q t)) where
        at_wholes : onto (fields as_whole 5 (drop (q + 1) t)) (λ w. onto (method_in (get_or w.0 0 0)) (λ k. settings_if_read m k w.0 (tail_by w.1))) ≡ set_by t
        unfolding set_by
        at_wholes = rw (sym e, sym f, sym g, drop-drop 1 q t)

        pub set_wholeless : none ≡ fields as_whole 5 (drop (q + 1) t) → none ≡ set_by t
        set_wholeless h = ap (λ (o : Option (List ℕ × List ℕ)). onto o (λ w. onto (method_in (get_or w.0 0 0)) (λ k. settings_if_read m k w.0 (tail_by w.1)))) h ∙ at_wholes

        module _ (w : List ℕ) (x : List ℕ) (h : some (w, x) ≡ fields as_whole 5 (drop (q + 1) t)) where
          at_method : onto (method_in (get_or w 0 0)) (λ k. settings_if_read m k w (tail_by x)) ≡ set_by t
          at_method = ap (λ (o : Option (List ℕ × List ℕ)). onto o (λ v. onto (method_in (get_or v.0 0 0)) (λ k. settings_if_read m k v.0 (tail_by v.1)))) h ∙ at_wholes

          pub set_methodless : none ≡ method_in (get_or w 0 0) → none ≡ set_by t
          set_methodless b = ap (λ (o : Option TransformMethod). onto o (λ k. settings_if_read m k w (tail_by x))) b ∙ at_method

          module _ (k : TransformMethod) (b : some k ≡ method_in (get_or w 0 0)) where
            at_tail : settings_if_read m k w (tail_by x) ≡ set_by t
            at_tail = ap (λ (o : Option TransformMethod). onto o (λ k. settings_if_read m k w (tail_by x))) b ∙ at_method

            pub set_tailless : none ≡ tail_by x → none ≡ set_by t
            set_tailless c = ap (settings_if_read m k w) c ∙ at_tail

            module _ (y u : Float) (v : List ℕ) (c : some ((y, u), v) ≡ tail_by x) where
              pub set_unfit : set_test (get_or w 1 0) (get_or w 2 0) (get_or w 3 0) (get_or w 4 0) y ≡ false → none ≡ set_by t
              set_unfit i = go i ∙ ap (settings_if_read m k w) c ∙ at_tail
                where
                  go : set_test (get_or w 1 0) (get_or w 2 0) (get_or w 3 0) (get_or w 4 0) y ≡ false → none ≡ settings_if_read m k w (some ((y, u), v))
                  go i = rw i

              pub set_good : set_test (get_or w 1 0) (get_or w 2 0) (get_or w 3 0) (get_or w 4 0) y ≡ true → some (settings_with m k w y u, v) ≡ set_by t
              set_good i = go i ∙ ap (settings_if_read m k w) c ∙ at_tail
                where
                  go : set_test (get_or w 1 0) (get_or w 2 0) (get_or w 3 0) (get_or w 4 0) y ≡ true → some (settings_with m k w y u, v) ≡ settings_if_read m k w (some ((y, u), v))
                  go i = rw i
