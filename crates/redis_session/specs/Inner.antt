pub mod SlotNumbers
