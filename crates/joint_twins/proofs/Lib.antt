mod Below
mod Stands
