-- `Rights`: the rights that nobody can have.
pub mod Rights
