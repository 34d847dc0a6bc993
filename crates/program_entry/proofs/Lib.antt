mod Here
mod Handed
mod Statuses
