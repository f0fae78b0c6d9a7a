mod Commutes
mod Alike
mod Runs
mod Granted
