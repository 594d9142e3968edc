pub mod People
