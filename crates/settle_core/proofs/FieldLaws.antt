-- The fields of the signal line. Assumes nothing.
use Prim.Native.Nat.{ℕ, suc, ◌+◌, ◌-◌, ◌≤◌, ◌<◌}
use native.Mathlib.Omega.{arith}
use mathlib.Core.Path.{◌≡◌, refl, sym, ap, ◌∙◌}
use mathlib.Core.Bool.{Bool, true, false, cond, ◌&&◌, true≢false}
use mathlib.Core.List.{List, [], ◌∷◌}
use mathlib.Core.Option.{Option, none, some}
use borrow.Author.Tests.{leb-true, leb-false, eq-eqb, ne_eqb, lt-leb}
use lib.Dec.{eqb, leb}
use lib.IntN.{ℤ, pos, negsuc}
use lib.ListN.{length, take, drop, get_or, length-drop}
use lib.Seq.{get_or-drop, drop-drop}
use mir.Syntax.{w64}
use Rattle.std.specs.Int.{FitsUnsigned}
use Rattle.std.proofs.Common.{rules}
use Rattle.std.proofs.lemmas.Option.{none-some, same_Some}
use Rattle.std.specs.Result.{OkIff, result_ok}
use Rattle.std.specs.Prelude.{Result, Ok, Err, Some, None, unsigned_abs}
use Rattle.trcf.specs.Lists.{null}
use Rattle.bench_core.specs.Bench.{cell_length}
use Rattle.settling.specs.Settling.{Signal, signal, integer_size, in_limits}
use Rattle.settle_core.specs.Input.{signed_of, Part, no_part, part_by as readPart, part_of, with_part, limited, fields_of, is_signal, signal_read as signalAt, part}

-- ---- a field at its place

module _ (text : List ℕ) (at k end : ℕ) (e : k ≡ cell_length (drop at text)) (h : at ≤ length text) where
  pub part_open : at + k ≡ length text → no_part ≡ part_of end (drop at text)
  unfolding part_of
  part_open q =
      let z : cell_length (drop at text) ≡ length (drop at text) = simp length-drop (omega (arith, e)) in
      sym (rw (eq-eqb (cell_length (drop at text)) (length (drop at text)) z))

  module _ (q : at + k ≡ length text → ⊥) where
    inside : eqb (cell_length (drop at text)) (length (drop at text)) ≡ false
    inside = ne_eqb (cell_length (drop at text)) (length (drop at text)) (λ z. q (omega (arith, e, z, length-drop at text)))

    byte_is : get_or (drop at text) (cell_length (drop at text)) 0 ≡ get_or text (at + k) 0
    byte_is = ap (λ (n : ℕ). get_or (drop at text) n 0) (sym e) ∙ get_or-drop at text k 0

    pub part_other : (get_or text (at + k) 0 ≡ end → ⊥) → no_part ≡ part_of end (drop at text)
    unfolding part_of
    part_other n = sym (rw (inside, ne_eqb (get_or (drop at text) (cell_length (drop at text)) 0) end (λ z. n (sym byte_is ∙ z))))

    pub part_here : get_or text (at + k) 0 ≡ end → (v : Option ℤ) → v ≡ signed_of (take (at + k - at) (drop at text))
        → readPart v (drop (at + k + 1) text) ≡ part_of end (drop at text)
    unfolding part_of
    part_here n f s =
        let u : at + k + 1 ≡ at + suc (cell_length (drop at text)) = omega (arith, e) in
        let v : at + k - at ≡ cell_length (drop at text) = omega (arith, e) in
        let d : drop (at + k + 1) text ≡ drop (suc (cell_length (drop at text))) (drop at text) =
        ap (λ (i : ℕ). drop i text) u ∙ sym (drop-drop (suc (cell_length (drop at text))) at text) in
        let c : f ≡ signed_of (take (cell_length (drop at text)) (drop at text)) = s ∙ ap (λ (i : ℕ). signed_of (take i (drop at text))) v in
        (λ j. readPart (c j) (d j))
        ∙ sym (rw (inside, eq-eqb (get_or (drop at text) (cell_length (drop at text)) 0) end (byte_is ∙ n)))

-- ---- six fields

module _ (text : List ℕ) (at end : ℕ) (k : ℤ → List ℕ → Option Signal) where
  pub stops : no_part ≡ part_of end (drop at text) → with_part (part_of end (drop at text)) k ≡ none
  stops e = ap (λ (p : Part). with_part p k) (sym e)

  pub goes_on : (z : ℤ) (next : ℕ) → part z (drop next text) ≡ part_of end (drop at text) → with_part (part_of end (drop at text)) k ≡ k z (drop next text)
  goes_on z next e = ap (λ (p : Part). with_part p k) (sym e)

pub null_end : (t : List ℕ) (n : ℕ) → n ≡ length t → null (drop n t) ≡ true
null_end t n e = go (drop n t) (simp length-drop (omega (arith, e)))
  where
    go : (l : List ℕ) → length l ≡ 0 → null l ≡ true
    go [] h = refl
    go (x ∷ l) h = absurd (omega arith)

pub null_not : (t : List ℕ) (n : ℕ) → (n ≡ length t → ⊥) → n ≤ length t → null (drop n t) ≡ false
null_not t n e h = go (drop n t) (let d = length-drop n t in omega (arith, e, d))
  where
    go : (l : List ℕ) → 0 < length l → null l ≡ false
    go [] k = absurd (omega arith)
    go (x ∷ l) k = refl

-- ---- the limits

and_none : (a : Bool) → (a && false) ≡ false
and_none true = refl
and_none false = refl

-- outside 64 bits is outside the limits
past_word : (n : ℕ) → (FitsUnsigned w64 (pos n) → ⊥) → 1000 < n
past_word n h = go (leb n 1000) refl
  where
    go : (b : Bool) → leb n 1000 ≡ b → 1000 < n
    go true e = let k : n ≤ 1000 = leb-true n 1000 e in absurd (h (search rules, search rules))
    go false e = leb-false n 1000 e

module _ (b r q j : ℤ) where
  far_place : (p n : ℕ) → 1000 < p → in_limits (signal b r q j p n) ≡ false
  unfolding in_limits
  far_place p n h =
      rw (lt-leb p 1000 h, and_none (leb (integer_size j) 1000), and_none (leb (integer_size q) 1000), and_none (leb (integer_size r) 1000), and_none (leb (integer_size b) 1000))

  many_readings : (p n : ℕ) → 1000 < n → in_limits (signal b r q j p n) ≡ false
  unfolding in_limits
  many_readings p n h =
      rw (
        lt-leb n 1000 h,
        and_none (leb 1 n),
        and_none (leb p 1000),
        and_none (leb (integer_size j) 1000),
        and_none (leb (integer_size q) 1000),
        and_none (leb (integer_size r) 1000),
        and_none (leb (integer_size b) 1000),
      )

  module _ {E : Type 0} where
    pub no_place : (p n : ℤ) (x : Result ℕ E) → OkIff x (FitsUnsigned w64 p) (unsigned_abs p) → None ≡ result_ok x → none ≡ limited b r q j p n
    no_place (negsuc p) n x k e = refl
    no_place (pos p) (negsuc n) x k e = refl
    no_place (pos p) (pos n) (Ok v) k e = absurd (none-some v e)
    no_place (pos p) (pos n) (Err d) k e = let h : 1000 < p = past_word p k in sym (rw (far_place p n h))

    pub no_readings : (p n : ℤ) (y : Result ℕ E) → OkIff y (FitsUnsigned w64 n) (unsigned_abs n) → None ≡ result_ok y → none ≡ limited b r q j p n
    no_readings (negsuc p) n y k e = refl
    no_readings (pos p) (negsuc n) y k e = refl
    no_readings (pos p) (pos n) (Ok v) k e = absurd (none-some v e)
    no_readings (pos p) (pos n) (Err d) k e = let h : 1000 < n = past_word n k in sym (rw (many_readings p n h))

    unsigned_is : (z : ℤ) (x : Result ℕ E) (u : ℕ) → OkIff x (FitsUnsigned w64 z) (unsigned_abs z) → Some u ≡ result_ok x → FitsUnsigned w64 z × (u ≡ unsigned_abs z)
    unsigned_is z (Ok a) u k e = (k.0, same_Some u a e ∙ k.1)
    unsigned_is z (Err d) u k e = absurd (none-some u (sym e))

    pub limited_is : (p n : ℤ) (x y : Result ℕ E) (u v : ℕ)
        → OkIff x (FitsUnsigned w64 p) (unsigned_abs p) → OkIff y (FitsUnsigned w64 n) (unsigned_abs n) → Some u ≡ result_ok x → Some v ≡ result_ok y
        → cond (in_limits (signal b r q j u v)) (some (signal b r q j u v)) none ≡ limited b r q j p n
    limited_is p n x y u v k m e f = go p n (unsigned_is p x u k e) (unsigned_is n y v m f)
      where
        go : (p n : ℤ) → FitsUnsigned w64 p × (u ≡ unsigned_abs p) → FitsUnsigned w64 n × (v ≡ unsigned_abs n)
            → cond (in_limits (signal b r q j u v)) (some (signal b r q j u v)) none ≡ limited b r q j p n
        go (pos p) (pos n) g h = λ i. cond (in_limits (signal b r q j (g.1 i) (h.1 i))) (some (signal b r q j (g.1 i) (h.1 i))) none
        go (pos p) (negsuc n) g h = absurd (search (rules, h.0))
        go (negsuc p) n g h = absurd (search (rules, g.0))

-- ---- the name

pub signal_long : (l : List ℕ) → is_signal l ≡ true → 4 ≤ length l
unfolding is_signal
signal_long [] h = absurd (true≢false (sym h))
signal_long (a ∷ []) h = absurd (true≢false (sym (sym (and_none (eqb a 115)) ∙ h)))
signal_long (a ∷ b ∷ []) h = absurd (true≢false (sym (sym (rw (and_none (eqb b 105), and_none (eqb a 115))) ∙ h)))
signal_long (a ∷ b ∷ c ∷ []) h = absurd (true≢false (sym (sym (rw (and_none (eqb c 103), and_none (eqb b 105), and_none (eqb a 115))) ∙ h)))
signal_long (a ∷ b ∷ c ∷ d ∷ l) h = omega arith

pub not_signal : (l : List ℕ) → is_signal l ≡ false → none ≡ signalAt l
unfolding signalAt
not_signal l e = sym (rw e)

pub named_signal : (text : List ℕ) (at : ℕ) → is_signal (drop at text) ≡ true → fields_of (drop (at + 4) text) ≡ signalAt (drop at text)
unfolding signalAt
named_signal text at e = ap fields_of (sym (drop-drop 4 at text)) ∙ sym (rw e)
