mod GivingUp
mod Showing
mod Watchings
