pub mod FieldLaws
pub mod JudgeLaws
pub mod PrintLaws
pub mod ScanLaws
