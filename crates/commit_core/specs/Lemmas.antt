-- Laws of keys and places, of what stands at a key after attempts, of numbers, versions and values at places, of what
-- an absence may lose, and of moves, which crates above cite too.
pub mod Keys
pub mod Places
pub mod States
pub mod Numbers
pub mod Versions
pub mod Shows
pub mod Moves
pub mod Values
