pub mod Vocabulary
