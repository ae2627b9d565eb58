mod Lists
mod BoundFiles
mod Performing
mod Told
mod Openings
mod Spelling
mod Answered
mod Kept
mod Coded
mod Behind
mod Declared
mod KernelLines
mod Numbered
pub mod Viewing
pub mod Changing
mod LinksKept
mod TasksKept
pub mod Uses
mod SameLayouts
mod SameWorlds
mod GuardedBodies
mod WholePoints
mod NeutralRuns
mod SameTasks
mod PlainElses
mod SamePrograms
mod SameRuns
mod WorkedCode
mod Loads
pub mod LongLoads
