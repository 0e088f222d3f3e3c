pub mod FilledLearns
