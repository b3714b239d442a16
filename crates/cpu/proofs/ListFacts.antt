-- Lists by their index, and the greatest of some numbers.
pub mod GreatestCpu
pub mod GuestLists
pub mod ListReads
