mod Files
mod KeptNames
mod Numbers
mod Reloading
mod Rewritten
mod Searching
mod Taking
mod Unread
