-- What a head that was read from words is. Only private contracts and proofs cite this.
use Rattle.std.specs.Prelude.{ℕ, ◌≤◌, List, ◌≡◌, length}
use Rattle.trcf.specs.declared.head.Preprocessor.{Preprocessor}
use Rattle.capi.specs.Head.{head_of}

-- what the row 0 of words says of the head that was read from them
pub record HeadRead (w : List ℕ) (h : Preprocessor) : Type 0 where
  pub whole : 44 ≤ length w
  pub is : h ≡ head_of w
