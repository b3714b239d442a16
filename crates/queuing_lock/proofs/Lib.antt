pub mod OwnerLemmas
pub mod SleptLemmas
pub mod DeferredLemmas
pub mod PollLemmas
pub mod PartLemmas
