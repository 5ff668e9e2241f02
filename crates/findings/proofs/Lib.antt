-- That the numbers of what is told are those of the paper.
pub mod Told
