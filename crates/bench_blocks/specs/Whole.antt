-- What the bench prints for a whole input, by its lines and their fields, as document 01 says it: no blocks, no steps, and no field cut.
use Rattle.std.specs.Prelude.{ℕ, cond, List, [], ◌∷◌, ◌++◌, eqb, replicate, Float}
use Rattle.trcf.specs.Transformer.{zero32}
use Rattle.trcf.specs.View.{Lent}
use Rattle.bench_core.specs.Line.{blank_line, cell_of}
use Rattle.bench_core.specs.Bench.{fresh_bench, line_gives, no_text}
use Rattle.bench_core.specs.Run.{bench_memory, blank, shown}
use Rattle.bench_core.specs.declared.line.Line.{Line}
use Rattle.bench_core.specs.declared.step.Bench.{Bench}
use Rattle.bench_core.specs.declared.step.Phase.{Phase}
use Rattle.bench_core.specs.declared.step.Phase.TheVariants.{WantsSet, WantsWeights, Running, Ended}

-- ---- lines and fields: the parts of a text between the bytes x, one more than there are of these

abbrev pub push_byte : ℕ → List (List ℕ) → List (List ℕ)
push_byte b [] = (b ∷ []) ∷ []
push_byte b (p ∷ r) = (b ∷ p) ∷ r

abbrev pub split_by : ℕ → List ℕ → List (List ℕ)
split_by x [] = [] ∷ []
split_by x (b ∷ t) = let r = split_by x t in cond (eqb b x) ([] ∷ r) (push_byte b r)

abbrev pub split_lines : List ℕ → List (List ℕ)
split_lines t = split_by 10 t

abbrev pub split_fields : List ℕ → List (List ℕ)
split_fields t = split_by 9 t

-- a line by its fields, the name first
abbrev pub with_fields : Line → List (List ℕ) → Line
with_fields l [] = l
with_fields l (c ∷ r) = with_fields (cell_of l c) r

abbrev pub line_of_text : List ℕ → Line
line_of_text t = with_fields blank_line (split_fields t)

-- ---- what is printed

-- at the end of the input, after t: a line without its LF is of another form, and so is a missing `set` or `wgt`
abbrev pub end_text : Phase → List ℕ → List ℕ
end_text WantsSet t = no_text 19
end_text WantsWeights t = no_text 19
end_text Running [] = []
end_text Running (x ∷ t) = no_text 19
end_text Ended t = []

-- line by line: what stands after the last LF is no line
abbrev pub lines_print : Bench → Lent → List Float → List (List ℕ) → List ℕ
lines_print b lists y [] = []
lines_print b lists y (t ∷ []) = end_text b.phase t
lines_print b lists y (t ∷ u ∷ r) =
    let h = line_gives b (line_of_text t) lists y blank in
    shown h.out ++ lines_print h.bench h.lent h.point (u ∷ r)

unfoldable pub whole_prints : List ℕ → List ℕ
whole_prints t = lines_print fresh_bench bench_memory (replicate 320 zero32) (split_lines t)
