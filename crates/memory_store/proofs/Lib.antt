pub mod Listings
pub mod Moves
pub mod PathKeys
pub mod Trees
pub mod Fills
pub mod UploadLaws
