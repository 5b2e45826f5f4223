-- Streams: running, forcing and taking.
pub mod Stream
pub mod Running
pub mod Taking
pub mod Bounds
pub mod Pulls
