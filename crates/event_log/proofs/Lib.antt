pub mod BoolLemmas
pub mod ListLemmas
pub mod RunLemmas
pub mod Streams
pub mod Same
pub mod Forms
pub mod Line
pub mod Exclusion
pub mod Observed
pub mod Tickets
pub mod Foreign
pub mod Alone
pub mod Renaming
pub mod OneFree
mod Bypass
pub mod GrantWords
mod Worked
pub mod DigitsLemmas
pub mod ReadingLemmas
pub mod RingLemmas
pub mod MessageLemmas
