pub mod Unanswered
pub mod Boards
pub mod Steps
pub mod Queues
pub mod Answers
pub mod Events
pub mod Promises
