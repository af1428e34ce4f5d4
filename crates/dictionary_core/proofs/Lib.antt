pub mod Last
pub mod Walks
pub mod PairLists
pub mod Links
