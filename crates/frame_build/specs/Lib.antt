pub mod DataBuilding
pub mod DataFrames
pub mod DataRefusalCases
pub mod GivenParts
pub mod JoinBuilding
pub mod JoinFrames
