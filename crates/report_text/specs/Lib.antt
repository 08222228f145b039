pub mod PlanText
pub mod ReportText
pub mod Written
pub mod SummaryText
