-- The step table is linearizable: its calls have one order, that of the sections in which they take
-- effect.
pub mod Effects
pub mod Kept
pub mod Told
pub mod Steps
pub mod OneOrder
pub mod RealTime
