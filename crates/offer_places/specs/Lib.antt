pub mod Places
