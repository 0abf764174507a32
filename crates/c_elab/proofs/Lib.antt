mod FlagLists
mod FunctionLists
mod Lists
mod ObjectLists
mod Refused
mod Wholes
mod Zeros
