mod Found
mod Noted
mod Products
