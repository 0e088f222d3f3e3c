pub mod JudgedLaws
pub mod RestoreLaws
