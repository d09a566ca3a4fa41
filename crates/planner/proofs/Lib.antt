pub mod Chaining
pub mod Checking
pub mod Fitting
pub mod GoodPlans
pub mod PlansLaw
