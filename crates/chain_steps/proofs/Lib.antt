pub mod SplitSteps
pub mod SealLaws
pub mod StoredLaws
pub mod ChainKeys
pub mod ChainFacts
pub mod ChainMoves
pub mod ChainSwings
pub mod AgainNotes
