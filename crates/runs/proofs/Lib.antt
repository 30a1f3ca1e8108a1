pub mod Once
pub mod WriteLaws
pub mod DecideLaws
pub mod Meaning
pub mod ArrayLaws
