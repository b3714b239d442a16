-- The invariant of a system, and what it implies for the system's calls, threads and buffers.
pub mod OneOrder
pub mod OnePlaceEach
pub mod InvariantOverSteps
pub mod PartsTold
pub mod InvariantAtBoot
pub mod PlanGuests
pub mod SystemsAtBoot
pub mod NobodyPending
pub mod Moments
pub mod RealTime
