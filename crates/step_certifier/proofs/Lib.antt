mod Samples
pub mod Entries
pub mod RunEnds
pub mod Levels
pub mod TurnsLeft
pub mod Ways
pub mod LoopCosts
pub mod Items
pub mod Programs
pub mod Certificates
pub mod CappedCosts
pub mod CountedCosts
pub mod ReachedMarks
pub mod OnChip
pub mod BoundAnswers
pub mod LoopTurns
