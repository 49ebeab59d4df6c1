mod Shown
pub mod Breaks
pub mod Ends
pub mod NoWords
pub mod Printed
pub mod Scripts
pub mod Serves
pub mod WholeTexts
pub mod Changed
