pub mod Buckets
pub mod Pairs
pub mod Chains
pub mod Lends
