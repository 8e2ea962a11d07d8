pub mod HexLemmas
pub mod OriginLemmas
pub mod SentenceLemmas
