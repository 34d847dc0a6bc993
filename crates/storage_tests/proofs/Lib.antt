pub mod NextSnapshots
