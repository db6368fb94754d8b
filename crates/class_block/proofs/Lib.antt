pub mod PartsProof
