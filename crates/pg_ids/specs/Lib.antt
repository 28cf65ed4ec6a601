pub mod Key
pub mod AnyKey
