-- What the promises of `sheet` and `reader` mean. `Grammar` is RFC 4180, `Sizes` how long a sheet and a number may be. `Cut` and `Rows`
-- work the cutters' answers out; `Where` says where a written row's fields lie, and `Meaning` what the theorems of
-- proofs/Theorems.antt show: that the answers are the grammar's.
pub mod Grammar
pub mod Sizes
pub mod Cut
pub mod Where
pub mod Rows
pub mod Meaning
