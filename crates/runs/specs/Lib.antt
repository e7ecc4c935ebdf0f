pub mod Promises
pub mod Books
pub mod Ruling
pub mod Numbers
pub mod Pledge
