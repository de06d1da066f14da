pub mod Living
pub mod Steps
pub mod KernelCode
pub mod Sets
pub mod Upcalls
pub mod Ticks
