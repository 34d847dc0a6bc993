-- What a pass has seen, from one view of it to another.
pub use Rattle.engine_seats.specs.Cuts.{HasSeen}
