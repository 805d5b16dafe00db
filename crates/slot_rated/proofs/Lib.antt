pub mod RateRefusing
pub mod RateCalling
pub mod RateRuns
