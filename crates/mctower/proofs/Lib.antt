mod LineLemmas
mod FaultLemmas
mod ScheduleLemmas
mod CountLemmas
mod ReadingLemmas
mod OrderNumbers
mod SpellingLemmas
mod TabledLemmas
mod RunningLemmas
mod ThreadsAreRuns
mod ThreadsLemmas
mod Unguarded
pub mod HistoryLemmas
pub mod TopLemmas
