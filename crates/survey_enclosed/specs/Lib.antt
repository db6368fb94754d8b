pub mod Ready
pub mod Odds
pub mod OddsProof
pub mod Walk
pub mod WalkProof
pub mod StepProof
