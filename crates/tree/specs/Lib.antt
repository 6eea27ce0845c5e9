pub mod Tree
pub mod Inode
pub mod InodeFacts
