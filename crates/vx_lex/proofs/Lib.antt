pub mod Counted
pub mod Firsts
pub mod Found
pub mod Lengths
pub mod Numbers
pub mod Places
pub mod Scan
pub mod Steps
