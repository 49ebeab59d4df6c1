pub mod Dates
pub mod Determined
pub mod Listings
pub mod Numbers
pub mod Quoting
pub mod Replies
pub mod ReplyView
pub mod Written
