pub mod Refusals
pub mod UnderWay
pub mod Phases
pub mod Tables
pub mod Refills
