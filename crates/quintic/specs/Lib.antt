pub mod Quintic
