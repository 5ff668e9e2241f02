-- `Sole`: the test that no person has two grants tells the fact. `Walks`: what a walk over the doors has met and marked.
pub mod Sole
pub mod Walks
