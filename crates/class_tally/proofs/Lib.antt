pub mod MeanProof
pub mod MergingProof
pub mod FilesProof
pub mod RefusalsProof
