pub mod Getters
