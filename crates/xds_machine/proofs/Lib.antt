mod Joining
mod Wired
