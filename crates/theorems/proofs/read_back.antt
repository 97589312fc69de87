pub mod Built
pub mod CommandsBack
pub mod DataOpens
pub mod DataParts
pub mod JoinOpens
pub mod JoinParts
pub mod Opened
pub mod OpenedParts
