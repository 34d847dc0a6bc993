mod Over
mod Moves
mod Placed
mod Scanned
pub mod Replies
mod Ends
mod LinesOf
mod Loop
mod CellLoop
mod Gated
