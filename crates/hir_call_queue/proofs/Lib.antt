pub mod Woken
