pub mod KeptGates
