pub mod OpeningLemmas
pub mod FrameLemmas
pub mod MeantLemmas
