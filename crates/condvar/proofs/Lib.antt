pub mod CondLemmas
