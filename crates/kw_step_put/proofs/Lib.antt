pub mod PairLemmas
pub mod Passing
