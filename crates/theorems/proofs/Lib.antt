pub mod demand_3
pub mod examples
pub mod fields
pub mod promises
pub mod read_back
pub mod refusals
pub mod versions
