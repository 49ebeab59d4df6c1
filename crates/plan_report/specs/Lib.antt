pub mod PlanData
pub mod Reports
