pub mod Transaction
pub mod Bridge
pub mod Laws
pub mod WriteSets
pub mod WriteLaws
