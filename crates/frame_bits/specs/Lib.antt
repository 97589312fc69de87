pub mod Fctrl
