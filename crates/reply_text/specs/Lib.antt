pub mod Origins
pub mod Answers
pub mod Written
