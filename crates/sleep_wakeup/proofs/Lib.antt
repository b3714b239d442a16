pub mod PollLemmas
