-- What the tests of `judge` tell.
pub mod Judged
