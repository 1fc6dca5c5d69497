pub mod Replies
pub mod Rules
