pub mod CAnswers
pub mod CCommands
pub mod CGiven
pub mod CStored
