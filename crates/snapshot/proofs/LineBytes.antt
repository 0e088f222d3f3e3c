-- The bytes of a line as they are written, piece by piece, and their number.
use Prim.Native.Nat.{ℕ, suc, ◌+◌, ◌*◌, ◌≤◌, ◌<◌}
use native.Mathlib.Numerals.{add-one}
use native.Mathlib.Nat.{suc-mul}
use native.Mathlib.Omega.{arith}
use mathlib.Core.Path.{◌≡◌, refl, sym, ap, ◌∙◌}
use mathlib.Core.List.{List, [], ◌∷◌, ◌++◌, map, append_assoc}
use lib.ListN.{length, take, drop, get_or, length-append, length-drop}
use lib.Seq.{drop-cons, drop-drop}
use lib.Ieee.{Float, nan, binary32, binary64}
use Rattle.snapshot.specs.Text.{whole, float, tabbed_fields, singles, chn_line, cnt_line, dev_line, dev_lines, tim_line, buf_line, buf_lines}
use Rattle.snapshot.specs.Read.{bytes_of_line}
use Rattle.snapshot.specs.Steps.Write.{tabbed, set_bytes}
use Rattle.snapshot.proofs.WriteLaws.{float_length, floats_length, behind_tabbed}

pub singles_bytes : (name : List ℕ) (v : List Float) → name ++ (tabbed (map (float binary32) v) ++ (10 ∷ [])) ≡ bytes_of_line (singles name v)
unfolding singles
singles_bytes name v = ap (λ (t : List ℕ). name ++ t) (sym (behind_tabbed (map (float binary32) v)))

pub tim_bytes : (v : List ℕ) → (116 ∷ 105 ∷ 109 ∷ []) ++ (tabbed (map whole v) ++ (10 ∷ [])) ≡ bytes_of_line (tim_line v)
unfolding tim_line
tim_bytes v = ap (λ (t : List ℕ). 116 ∷ 105 ∷ 109 ∷ t) (sym (behind_tabbed (map whole v)))

pub chn_bytes : (v : List ℕ) → (99 ∷ 104 ∷ 110 ∷ []) ++ (tabbed (map whole v) ++ (10 ∷ [])) ≡ bytes_of_line (chn_line v)
unfolding chn_line
chn_bytes v = ap (λ (t : List ℕ). 99 ∷ 104 ∷ 110 ∷ t) (sym (behind_tabbed (map whole v)))

pub cnt_bytes : (a b c : ℕ)
    → (99 ∷ 110 ∷ 116 ∷ []) ++ (tabbed (map whole (a ∷ b ∷ c ∷ [])) ++ (10 ∷ [])) ≡ bytes_of_line (cnt_line a b c)
unfolding cnt_line
cnt_bytes a b c = ap (λ (t : List ℕ). 99 ∷ 110 ∷ 116 ∷ t) (sym (behind_tabbed (map whole (a ∷ b ∷ c ∷ []))))

pub dev_bytes : (a b c : Float)
    → (100 ∷ 101 ∷ 118 ∷ []) ++ (tabbed (map (float binary64) (a ∷ b ∷ c ∷ [])) ++ (10 ∷ [])) ≡ bytes_of_line (dev_line a b c)
unfolding dev_line
dev_bytes a b c = ap (λ (t : List ℕ). 100 ∷ 101 ∷ 118 ∷ t) (sym (behind_tabbed (map (float binary64) (a ∷ b ∷ c ∷ []))))

pub buf_bytes : (t : ℕ) (v : List Float)
    → (98 ∷ 117 ∷ 102 ∷ []) ++ ((9 ∷ whole t) ++ (tabbed (map (float binary32) v) ++ (10 ∷ []))) ≡ bytes_of_line (buf_line t v)
unfolding buf_line
buf_bytes t v = ap (λ (r : List ℕ). 98 ∷ 117 ∷ 102 ∷ 9 ∷ (whole t ++ r)) (sym (behind_tabbed (map (float binary32) v)))

-- ---- how many

pub singles_size : (a b c : ℕ) (v : List Float) → length (bytes_of_line (singles (a ∷ b ∷ c ∷ []) v)) ≡ 4 + 9 * length v
singles_size a b c v =
    ap length (sym (singles_bytes (a ∷ b ∷ c ∷ []) v))
    ∙ omega (arith, length-append (tabbed (map (float binary32) v)) (10 ∷ []), floats_length v)

pub tim_size : (v : List ℕ) → length (bytes_of_line (tim_line v)) ≡ 4 + length (tabbed (map whole v))
tim_size v = ap length (sym (tim_bytes v)) ∙ omega (arith, length-append (tabbed (map whole v)) (10 ∷ []))

pub chn_size : (v : List ℕ) → length (bytes_of_line (chn_line v)) ≡ 4 + length (tabbed (map whole v))
chn_size v = ap length (sym (chn_bytes v)) ∙ omega (arith, length-append (tabbed (map whole v)) (10 ∷ []))

pub cnt_size : (a b c : ℕ) → length (bytes_of_line (cnt_line a b c)) ≡ 7 + length (whole a) + length (whole b) + length (whole c)
unfolding cnt_line
cnt_size a b c = simp length-append (omega arith)

pub dev_size : (a b c : Float) → length (bytes_of_line (dev_line a b c)) ≡ 55
unfolding dev_line
dev_size a b c = simp length-append (omega (arith, float_length binary64 a, float_length binary64 b, float_length binary64 c))

pub buf_size : (t : ℕ) (v : List Float) → length (bytes_of_line (buf_line t v)) ≡ 5 + length (whole t) + 9 * length v
buf_size t v =
    ap length (sym (buf_bytes t v))
    ∙ simp length-append (omega (arith, floats_length v))

pub set_size : (l m d k a b : ℕ) (x y : Float)
    → length (set_bytes l m d k a b x y) ≡ 37 + length (whole m) + length (whole d) + length (whole k) + length (whole a) + length (whole b)
set_size l m d k a b x y = simp length-append (omega (arith, float_length binary64 x, float_length binary32 y))

-- ---- one line more of many

pub devs_step : (v : List Float) (i : ℕ) → i + 2 < length v
    → dev_lines (drop i v) ≡ dev_line (get_or v i nan) (get_or v (i + 1) nan) (get_or v (i + 2) nan) ∷ dev_lines (drop (i + 3) v)
devs_step v i h =
    let p : suc i ≡ i + 1 = omega arith in
    let q : suc (suc i) ≡ i + 2 = omega arith in
    let r : suc (suc (suc i)) ≡ i + 3 = omega arith in
    let e : drop i v ≡ get_or v i nan ∷ get_or v (suc i) nan ∷ get_or v (suc (suc i)) nan ∷ drop (suc (suc (suc i))) v =
    drop-cons v i nan (omega arith)
    ∙ ap (λ (l : List Float). get_or v i nan ∷ l) (drop-cons v (suc i) nan (omega arith) ∙ ap (λ (l : List Float). get_or v (suc i) nan ∷ l) (drop-cons v (suc (suc i)) nan (omega arith))) in
    ap dev_lines e ∙ (λ t. dev_line (get_or v i nan) (get_or v (p t) nan) (get_or v (q t) nan) ∷ dev_lines (drop (r t) v))

pub devs_end : (l : List Float) → length l < 3 → dev_lines l ≡ []
devs_end [] h = refl
devs_end (a ∷ []) h = refl
devs_end (a ∷ b ∷ []) h = refl
devs_end (a ∷ b ∷ c ∷ l) h = absurd (omega arith)

pub bufs_step : (d k i : ℕ) (v : List Float) (ts : List ℕ) → i < length ts
    → buf_lines d (drop k v) (drop i ts) ≡ buf_line (get_or ts i 0) (take d (drop k v)) ∷ buf_lines d (drop (k + d) v) (drop (i + 1) ts)
bufs_step d k i v ts h =
    ap (buf_lines d (drop k v)) (drop-cons ts i 0 h)
    ∙ (λ t. buf_line (get_or ts i 0) (take d (drop k v)) ∷ buf_lines d (drop-drop d k v t) (drop (sym (add-one i) t) ts))

-- what is left of the numbers when the numbers of one line are written
pub next_room : (d k i n : ℕ) (ts : List ℕ) → i < length ts → k + length (drop i ts) * d ≤ n → k + d + length (drop (i + 1) ts) * d ≤ n
next_room d k i n ts h g =
    let e : length (drop i ts) ≡ suc (length (drop (i + 1) ts)) = simp length-drop (omega arith) in
    let m : length (drop i ts) * d ≡ length (drop (i + 1) ts) * d + d = ap (λ (x : ℕ). x * d) e ∙ suc-mul (length (drop (i + 1) ts)) d in
    omega arith

-- ---- the line of the settings

pub five_size : (m d k a b : ℕ)
    → length (tabbed (map whole (m ∷ d ∷ k ∷ a ∷ b ∷ []))) ≡ 5 + length (whole m) + length (whole d) + length (whole k) + length (whole a) + length (whole b)
five_size m d k a b = simp length-append (omega arith)

tabbed_behind : (fs gs : List (List ℕ)) → tabbed fs ++ tabbed_fields gs ≡ tabbed_fields (fs ++ gs)
tabbed_behind [] gs = refl
tabbed_behind (f ∷ fs) gs = ap (λ (t : List ℕ). 9 ∷ t) (append_assoc f (tabbed fs) (tabbed_fields gs) ∙ ap (λ (t : List ℕ). f ++ t) (tabbed_behind fs gs))

pub set_bytes_lem : (l m d k a b : ℕ) (x y : Float)
    → 115 ∷ 101 ∷ 116 ∷ 9 ∷ l ∷ (tabbed (map whole (m ∷ d ∷ k ∷ a ∷ b ∷ [])) ++ tabbed_fields (float binary64 x ∷ float binary32 y ∷ []))
    ≡ set_bytes l m d k a b x y
set_bytes_lem l m d k a b x y =
    ap (λ (t : List ℕ). 115 ∷ 101 ∷ 116 ∷ 9 ∷ l ∷ t)
    (tabbed_behind (map whole (m ∷ d ∷ k ∷ a ∷ b ∷ [])) (float binary64 x ∷ float binary32 y ∷ []))
