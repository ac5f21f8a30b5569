pub mod Even
pub mod FlippedLists
pub mod Flips
pub mod Listed
pub mod TakenOut
pub mod Union
pub mod UsedInputs
