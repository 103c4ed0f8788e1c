pub mod Read
pub mod Agents
