pub mod Rate
pub mod RateKept
pub mod RateRuns
