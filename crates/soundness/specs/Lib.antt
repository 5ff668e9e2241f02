-- `SoundTest`: what the code computes to tell whether lent lists are a sound record's, as paper 01 writes it. `Rights`: what it looks at of
-- the rights.
pub mod SoundTest
pub mod Rights
