-- What the contracts of `links` cite: stage 4 (RULES 6.7).
pub mod Links
pub mod Scanning
