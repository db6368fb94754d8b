-- Scene has the theorem that the drawing of a solid of an accepted scene has the form of a text and denotes that solid; Denoted has the
-- statement that the scene of two texts is the one that they denote, and proofs/DenotedProof its proof. The others lead to these.
pub mod Words
pub mod Drawing
pub mod Redrawn
pub mod Drawn
pub mod Scene
pub mod Denoted
pub mod Capped
pub mod Reading
