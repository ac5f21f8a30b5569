pub mod Asked
pub mod Costs
pub mod OneChoice
pub mod Rounds
pub mod Seams
