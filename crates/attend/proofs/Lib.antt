-- `Coming`: what a row says that comes alone, and that every text comes in rows. `Live`: what is printed of rows that come one after the
-- other, and the record afterwards. `Frames`: the frames written beside them.
pub mod Coming
pub mod Live
pub mod Frames
pub mod Theorems
