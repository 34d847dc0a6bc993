mod EmptyLaws
mod HandLaws
mod KeyLaws
mod OpeningLaws
mod SeatLaws
mod DropLaws
mod OverLaws
