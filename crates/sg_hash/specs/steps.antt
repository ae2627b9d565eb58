pub mod Probing
pub mod Searching
pub mod Paging
