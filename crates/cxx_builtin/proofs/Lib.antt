pub mod Drawing
pub mod UsualTurned
