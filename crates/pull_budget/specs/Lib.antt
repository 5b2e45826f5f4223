pub mod Views
pub mod Rule
pub mod Tickets
pub mod Seats
