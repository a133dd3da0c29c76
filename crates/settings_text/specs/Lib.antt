pub mod Answers
pub mod Documents
pub mod Keys
pub mod Numbers
pub mod Rules
pub mod Tables
pub mod Texts
