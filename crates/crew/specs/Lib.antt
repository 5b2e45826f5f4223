pub mod Turns
pub mod Asking
pub mod Offers
pub mod Working
