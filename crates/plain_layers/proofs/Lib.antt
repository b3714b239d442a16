pub mod TableLemmas
pub mod KernelLemmas
pub mod QLockLemmas
pub mod WholeLemmas
pub mod FifoLemmas
pub mod OpeningLemmas
pub mod PlainOpenings
