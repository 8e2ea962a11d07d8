pub mod WholeText
pub mod Pieces
pub mod Growing
