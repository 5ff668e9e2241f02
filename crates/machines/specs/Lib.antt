-- The machines of 001, "A Location Access Controller", as the chapter says them.
pub mod Sets
pub mod Machines
pub mod Context
pub mod M0
pub mod M1
pub mod M2
pub mod M3
pub mod M4
