mod Codes
mod Cutting
mod Decimals
mod Forms
mod FormsHold
mod FormsRead
pub mod Fronts
mod Giving
mod Growing
mod Holding
pub mod Numbers
mod Parts
mod PlainText
mod Reading
mod ReadsBack
mod Splitting
mod TextLemmas
mod Tokens
mod TokensApart
mod Utf8Octets
mod WrittenLines
