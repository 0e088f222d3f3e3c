-- Definitions that private contracts cite: nothing that a public promise or a theorem rests on.
pub mod Lengths
