-- The lines from `dev` to `tim`: where they break off, and what they give.
use Prim.Native.Nat.{ℕ, ◌+◌}
use mathlib.Core.Path.{◌≡◌, sym}
use mathlib.Core.List.{List}
use mathlib.Core.Option.{none, some}
use lib.Ieee.{Float, binary32}
use Rattle.snapshot.specs.Read.{as_float}
use Rattle.snapshot.specs.Steps.Judge.{list_line, tim_by}
use Rattle.snapshot.specs.Steps.Runs.{ran, broke, devs, parts, parts_by}

module _ (internal n x y k : ℕ) (l : List ℕ) where
  pub parts_broke : (m : ℕ) → broke m ≡ devs n l → broke m ≡ parts_by internal n x y k l
  unfolding parts_by
  parts_broke m e = rw (sym e)

  module _ (st : List Float) (l₁ : List ℕ) (e : ran st l₁ ≡ devs n l) where
    pub parts_inp : none ≡ list_line (as_float binary32) 105 110 112 x l₁ → broke (n + 1) ≡ parts_by internal n x y k l
    unfolding parts_by
    parts_inp q = rw (sym e, sym q)

    module _ (v : List Float) (l₂ : List ℕ) (f : some (v, l₂) ≡ list_line (as_float binary32) 105 110 112 x l₁) where
      pub parts_pnt : none ≡ list_line (as_float binary32) 112 110 116 y l₂ → broke (n + 2) ≡ parts_by internal n x y k l
      unfolding parts_by
      parts_pnt q = rw (sym e, sym f, sym q)

      module _ (u : List Float) (l₃ : List ℕ) (g : some (u, l₃) ≡ list_line (as_float binary32) 112 110 116 y l₂) where
        pub parts_tim : none ≡ tim_by internal k l₃ → broke (n + 3) ≡ parts_by internal n x y k l
        unfolding parts_by
        parts_tim q = rw (sym e, sym f, sym g, sym q)

        pub parts_all : (ts l₄ : List ℕ) → some (ts, l₄) ≡ tim_by internal k l₃ → ran (parts st v u ts) l₄ ≡ parts_by internal n x y k l
        unfolding parts_by
        parts_all ts l₄ q = rw (sym e, sym f, sym g, sym q)
