mod Calls
mod Names
