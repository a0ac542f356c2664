pub mod Lists
pub mod Members
