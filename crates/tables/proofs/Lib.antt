pub mod Before
pub mod Rows
pub mod Every
pub mod Same
pub mod Nearest
pub mod Rule
