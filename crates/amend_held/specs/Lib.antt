pub mod HeldBuffer
pub mod HeldCalls
