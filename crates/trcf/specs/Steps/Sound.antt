-- What the transformer's workers ask. Only private contracts and proofs cite this.
use Rattle.std.specs.Prelude.{ℕ, ◌*◌, ◌≤◌, ◌<◌}
use Rattle.trcf.specs.declared.transformer.WeightedTransformer.{WeightedTransformer}

-- what the workers ask of a head and of the length of the lent statistics
pub record Sound (h : WeightedTransformer) (n : ℕ) : Type 0 where
  pub some : 0 < h.input_length
  pub few : h.input_length ≤ 16
  pub room : 15 * h.input_length ≤ n
