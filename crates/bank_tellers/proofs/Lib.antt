mod OpeningLaws
mod SeatLaws
