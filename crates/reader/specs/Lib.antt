-- What the crate `reader` promises of a reader: `Reader` says where it stands. Rows, and how many there are, are defined in the
-- crate `grammar`.
pub mod Reader
