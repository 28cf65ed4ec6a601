pub mod Query
pub mod Asked
pub mod Answers
pub mod Login
