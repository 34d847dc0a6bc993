pub mod Named
pub mod TreeRecords
pub mod Contents
pub mod Roots
pub mod Filled
pub mod Opens
