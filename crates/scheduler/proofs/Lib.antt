pub mod BootLemmas
pub mod StepLemmas
