pub mod Bodies
pub mod GraphLaws
pub mod HalvesLaws
pub mod LawProofs
pub mod WorkedCycle
pub mod WorkedLaws
pub mod WorkedProofs
