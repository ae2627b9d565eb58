pub mod Keys
pub mod Lists
pub mod UseVariants
pub mod NameLists
pub mod Declaring
pub mod Reading
pub mod LawLemmasFault
pub mod LawLemmasDeclared
pub mod LawLemmasDistinct
pub mod LawLemmasLookup
mod Worked
