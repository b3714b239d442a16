pub mod TableLemmas
pub mod MachineLemmas
pub mod SpinLemmas
pub mod NoteLemmas
pub mod GrantLemmas
