-- A step of a CPU is one of the step table, and what a system reports is what the table has.
pub mod TableSystems
pub mod TableRows
pub mod TablePolls
pub mod TablePasses
pub mod TableCalls
pub mod TableHalts
pub mod ReachedSystems
pub mod Schedules
pub mod MissedLooks
pub mod PartsOfTable
pub mod PlacesTold
pub mod TableQuiet
