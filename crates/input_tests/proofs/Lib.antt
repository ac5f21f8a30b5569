pub mod FirstTerm
pub mod CodeLemmas
pub mod Whole
