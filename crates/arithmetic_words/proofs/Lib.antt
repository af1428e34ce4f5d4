pub mod ReadText
