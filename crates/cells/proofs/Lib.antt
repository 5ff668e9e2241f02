-- What is proved of the crate: `Words` says that comparing bytes is `==`, `Digits` what a byte does that is no digit.
pub mod Words
pub mod Digits
