pub mod Least
mod Lists
