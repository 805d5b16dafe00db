pub mod Accepted
pub mod Running
pub mod Traces
pub mod WholeSteps
pub mod Refusals
pub mod Told
