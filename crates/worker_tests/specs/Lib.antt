pub mod Endless
