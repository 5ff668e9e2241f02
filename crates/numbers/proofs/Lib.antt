-- `Alone`: equations allow one answer.
pub mod Alone
