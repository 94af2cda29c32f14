pub mod Arranging
pub mod Columns
pub mod Entries
pub mod Names
pub mod Layouts
pub mod Fitting
pub mod Judging
pub mod Samples
