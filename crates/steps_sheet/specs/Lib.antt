-- A steps sheet, as paper 01 writes it: `Words` are the words in it, `Heading` what its beginning is, `Says` what it says, by the
-- grammar alone, `Steps` the same worked out row by row, and `Lent` its steps in lent lists.
pub mod Words
pub mod Heading
pub mod Says
pub mod Steps
pub mod Lent
