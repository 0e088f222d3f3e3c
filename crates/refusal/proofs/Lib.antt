pub mod LentLaws
pub mod RefusalLaws
