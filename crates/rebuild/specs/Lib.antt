pub mod Refusals
pub mod Tableaus
pub mod Gathered
pub mod Data
pub mod Plans
pub mod PlanCalls
pub mod Solvers
pub mod SolverCalls
