pub mod LineLemmas
pub mod StageLemmas
pub mod MissLemmas
