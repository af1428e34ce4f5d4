pub mod Items
pub mod Listed
pub mod Laws
pub mod OnChip
