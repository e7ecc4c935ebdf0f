pub mod SumSteps
pub mod WeightedCheck
