pub mod Sketches
pub mod Places
pub mod Placed
pub mod Falls
pub mod Forces
pub mod Tops
pub mod Tables
pub mod Sharing
