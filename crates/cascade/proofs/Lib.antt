pub mod Law
pub mod Valid
pub mod Ordered
pub mod CodeLemmas
pub mod VectorLemmas
