pub mod CallsLemmas
pub mod ProgramLemmas
pub mod SpellingLemmas
