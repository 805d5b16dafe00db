pub mod CountLaws
pub mod FetchedLaws
pub mod PhaseLaws
pub mod CoreLaws
pub mod Filled
pub mod Places
