mod Worked
mod Taking
mod StorePages
mod Recovering
pub mod GatherLaws
pub mod GatherArrayLaws
pub mod GatherTreeLaws
pub mod GatherTreeSteps
pub mod GatherRootLaws
pub mod EntriesGreatest
pub mod EntriesOver
pub mod EntriesBuckets
pub mod EntriesFiles
pub mod EntriesDevices
pub mod EntriesFit
pub mod EntriesInOrder
pub mod OlderSnapshots
pub mod Exits
