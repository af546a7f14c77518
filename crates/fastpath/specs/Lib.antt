pub mod Looking
pub mod Moving
