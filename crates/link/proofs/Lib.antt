pub mod Rates
pub mod Walk
pub mod Levels
pub mod Spans
pub mod Verdicts
pub mod Gaps
pub mod Handed
pub mod Marked
