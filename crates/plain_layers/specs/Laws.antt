-- Lemmas that clauses of impls cite. They are proved here: no reader of a contract needs to believe
-- them.
pub mod ShownLaws
pub mod FifoLaws
pub mod FifoOwned
pub mod FifoTallies
