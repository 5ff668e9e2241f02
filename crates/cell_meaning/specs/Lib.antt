-- What the promises of `cells` mean. `Say` is the words and numbers of 01; `Meaning` is what the theorems of proofs/Theorems.antt
-- show of words.
pub mod Say
pub mod Meaning
