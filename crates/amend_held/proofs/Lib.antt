pub mod Demand3Held
pub mod HeldCallLaws
pub mod HeldLaws
pub mod HeldStates
pub mod HeldUndone
