pub mod Readers
pub mod Replies
pub mod Inv
pub mod Contents
