mod Asking
mod Contesting
mod Placing
mod Searching
mod Standing
mod Words
