mod FittingIds
pub mod SentenceLemmas
