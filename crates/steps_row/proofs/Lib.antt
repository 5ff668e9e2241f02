-- Lemmas for the search of a step's word.
--     Words    the step that a field names is the one whose word is the first in the table that it is
mod Words
