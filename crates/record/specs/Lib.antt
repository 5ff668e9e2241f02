-- The record, its soundness, its steps and its questions, as paper 01 writes them.
pub mod Doors
pub mod Sound
pub mod SoundTest
pub mod Steps
pub mod Deeds
pub mod Run
pub mod Lights
pub mod Questions
