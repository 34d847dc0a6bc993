pub mod MadeCalls
pub mod Replays
pub mod Streams
pub mod Tears
