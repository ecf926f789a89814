pub mod Visiting
pub mod Meaning
pub mod Visits
pub mod Traces
pub mod Settings
pub mod KnownAnswers
