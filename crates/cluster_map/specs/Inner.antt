pub mod NodeSets
pub mod Topology
