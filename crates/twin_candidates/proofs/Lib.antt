mod Below
mod Marked
mod Found
