pub mod SourcePlaces
pub mod Words
pub mod Work
pub mod Frames
pub mod Steps
pub mod Structures
pub mod BehindGo
pub mod Runs
mod Samples
pub mod Tests
pub mod UnreachablePlaces
pub mod StepsBelowCertificate
pub mod ItemsBelowCertificate
pub mod WalkFits
pub mod Valid
pub mod WalkLimits
pub mod RoundBounds
pub mod RoundTermination
pub mod RoundLaws
pub mod CertificateCheck
pub mod Slots
pub mod OneEffect
pub mod Heads
pub mod Rest
pub mod Bodies
pub mod Notes
mod Made
mod Settled
mod RefusedBodies
mod Texts
mod TextSamples
