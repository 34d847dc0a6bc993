-- Names of the crates below that those above speak of.
pub use Rattle.array_pages.specs.Spans.{IsArrayKey}
pub use Rattle.array_pages.specs.Walks.{IsLastBetween, IsWayPlace}
pub use Rattle.page_records.specs.Ends.{readied, worker_of}
