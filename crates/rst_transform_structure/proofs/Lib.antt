pub mod Classing
pub mod Computing
pub mod KeptTransitions
pub mod LastNodes
pub mod Passing
pub mod Placing
pub mod Retargeting
pub mod Titles
