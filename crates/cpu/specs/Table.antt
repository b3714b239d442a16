pub mod Blocks
pub mod Edits
pub mod Setups
pub mod Choice
pub mod Steps
pub mod Worked
pub mod Closing
pub mod Words
