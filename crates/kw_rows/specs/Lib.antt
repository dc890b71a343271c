pub mod Ledger
pub mod RowState
pub mod Rows
pub mod States
pub mod Group
pub mod Events
pub mod Structure
