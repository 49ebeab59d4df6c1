pub mod Lack
