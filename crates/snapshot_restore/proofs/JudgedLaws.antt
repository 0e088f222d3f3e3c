-- The lines after `cnt`, judged, of which nothing was kept.
use Prim.Native.Nat.{ℕ, ◌+◌, ◌*◌, ◌<◌, ◌≤◌}
use native.Mathlib.Omega.{arith}
use mathlib.Core.Path.{◌≡◌, sym, ap, ◌∙◌, subst}
use mathlib.Core.List.{List}
use lib.ListN.{length}
use Rattle.trcf.specs.Settings.{Settings}
use Rattle.snapshot.specs.Read.{Counts}
use Rattle.snapshot.specs.Steps.Runs.{ran, broke, unkept, bufs, expected, parts_of, body_by, Good}
use Rattle.snapshot.proofs.BodyLaws.{kept_of_lem, broke_of, bufs_length, body_parts, body_bufs, body_behind, body_all}
use Rattle.snapshot_restore.specs.Steps.{summed}
use Rattle.snapshot.specs.declared.head.BadLine.{BadLine}
use Rattle.std.specs.Prelude.{Result, Ok, Err, IsErrAnd, IfErr}

abbrev bad_line : ℕ → Result ℕ BadLine
bad_line m = Err (record { line = m })

abbrev counted : ℕ → Result ℕ BadLine
counted n = Ok n

-- what `?` hands on of lines that broke
pub handed : (r : Result ℕ BadLine) (b : BadLine) → IsErrAnd r (λ d. d ≡ b) → r ≡ Err b
handed (Ok n) b e = absurd e
handed (Err d) b e = ap (λ (x : BadLine). bad_line x.line) e

pub few_lines : (r : Result ℕ BadLine) (m n : ℕ) → m ≤ n → IfErr r (λ d. d.line ≤ m) → IfErr r (λ d. d.line ≤ n)
few_lines (Ok k) m n h e = tt
few_lines (Err d) m n h e = omega arith

module _ (s : Settings) (c : Counts) (l : List ℕ) where
  pub judged_parts : (m : ℕ) → broke m ≡ unkept (parts_of s c l) → bad_line m ≡ summed (body_by s c l)
  judged_parts m e = ap summed (body_parts s c l m (broke_of (parts_of s c l) m e))

  module _ (l₁ : List ℕ) (e : ran tt l₁ ≡ unkept (parts_of s c l)) (n : ℕ) (h : n ≡ expected s c l₁) where
    pub judged_bufs : (m : ℕ) → broke m ≡ unkept (bufs s.d n l₁) → bad_line (5 * s.d + 8 + m) ≡ summed (body_by s c l)
    judged_bufs m f =
        let p = kept_of_lem (parts_of s c l) l₁ e in
        let b = broke_of (bufs s.d n l₁) m f ∙ ap (λ (x : ℕ). bufs s.d x l₁) h in
        ap summed (body_bufs s c l p.0 l₁ p.1 m b)

    module _ (l₂ : List ℕ) (f : ran tt l₂ ≡ unkept (bufs s.d n l₁)) where
      pub judged_behind : 0 < length l₂ → bad_line (5 * s.d + 8 + n + 1) ≡ summed (body_by s c l)
      judged_behind k =
          let p = kept_of_lem (parts_of s c l) l₁ e in
          let i = kept_of_lem (bufs s.d n l₁) l₂ f in
          let a : 5 * s.d + 8 + n + 1 ≡ 5 * s.d + 8 + (expected s c l₁ + 1) = omega (arith, h) in
          ap bad_line a
          ∙ ap summed (body_behind s c l p.0 l₁ p.1 i.0 l₂ (i.1 ∙ ap (λ (x : ℕ). bufs s.d x l₁) h) k)

      pub judged_all : length l₂ ≡ 0 → Ok n ≡ summed (body_by s c l)
      judged_all k =
          let p = kept_of_lem (parts_of s c l) l₁ e in
          let i = kept_of_lem (bufs s.d n l₁) l₂ f in
          ap counted (sym (bufs_length s.d n l₁ i.0 l₂ i.1))
          ∙ ap summed (body_all s c l p.0 l₁ p.1 i.0 l₂ (i.1 ∙ ap (λ (x : ℕ). bufs s.d x l₁) h) k)

      pub judged_good : length l₂ ≡ 0 → Good (body_by s c l)
      judged_good k =
          let p = kept_of_lem (parts_of s c l) l₁ e in
          let i = kept_of_lem (bufs s.d n l₁) l₂ f in
          subst Good (body_all s c l p.0 l₁ p.1 i.0 l₂ (i.1 ∙ ap (λ (x : ℕ). bufs s.d x l₁) h) k) tt
