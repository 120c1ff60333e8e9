pub mod ListAnswers
pub mod Run
