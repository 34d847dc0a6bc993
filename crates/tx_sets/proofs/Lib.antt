mod MarkLaws
mod NoteLaws
mod RenewLaws
mod SetLaws
