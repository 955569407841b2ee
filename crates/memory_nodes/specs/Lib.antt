pub mod Cells
pub mod Steps
pub mod Undo
pub mod Parts
pub mod Results
pub mod Nodes
pub mod Picks
