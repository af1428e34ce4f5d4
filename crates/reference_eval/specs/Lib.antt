pub mod Ends
pub mod Outside
pub mod Answers
pub mod Steps
pub mod Shapes
pub mod Work
pub mod Machine
pub mod Evaluation
