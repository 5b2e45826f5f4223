-- Terms as letters.
pub mod Letters
pub mod Flat
