mod WorkedRows
pub mod TextSoFar
pub mod FlatOutcomes
mod RoomMore
pub mod KeyLines
