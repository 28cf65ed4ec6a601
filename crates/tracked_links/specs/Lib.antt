pub mod Heard
pub mod HeardInside
pub mod Sets
