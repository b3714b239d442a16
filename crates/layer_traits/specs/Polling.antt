-- What one poll adds and leaves, consecutive polls, and plans of polls.
pub mod Polls
pub mod Framed
pub mod Plans
pub mod Along
pub mod Looks
pub mod Spins
pub mod PollRuns
pub mod LayerPolls
