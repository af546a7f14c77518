pub mod Rk4
