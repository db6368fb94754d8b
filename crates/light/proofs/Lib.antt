pub mod CasesProof
pub mod TallyProof
