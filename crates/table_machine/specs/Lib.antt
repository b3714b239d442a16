pub mod Kinds
pub mod Stored
pub mod Layout
pub mod Views
pub mod Rule
pub mod Plays
pub mod SeatViews
pub mod Laws
