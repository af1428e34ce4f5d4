pub mod Steps
pub mod Inside
pub mod Admission
mod Rows
mod FirstMoments
mod ReadingMoments
mod RunningMoments
mod MadeMoments
mod AdmittedSamples
mod MadeAdmitted
