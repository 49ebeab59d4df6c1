mod Screens
mod Texts
