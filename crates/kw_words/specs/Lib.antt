pub mod Layout
pub mod Pend
pub mod State
pub mod Link
pub mod Count
pub mod Scan
pub mod Plain
pub mod Kind
