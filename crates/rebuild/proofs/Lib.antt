pub mod Places
pub mod Granted
