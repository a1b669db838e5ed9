pub mod Reconciliation
pub mod Lengths
