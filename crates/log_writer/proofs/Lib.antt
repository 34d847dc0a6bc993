mod Flushes
mod Places
mod Stores
mod Stages
mod Closing
mod TakenBack
mod Again
