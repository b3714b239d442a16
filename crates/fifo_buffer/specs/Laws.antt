-- Lemmas that clauses of impls cite. They are proved here: no reader of a contract needs to believe
-- them.
pub mod BlockSteps
pub mod BlockTallies
pub mod Tallies
pub mod WaitLists
pub mod FifoLaws
pub mod OwnedLaws
pub mod MonitorTallies
pub mod MonitorLaws
pub mod MonitorOwned
