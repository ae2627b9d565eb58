pub mod Signs
pub mod Rooms
pub mod Teams
