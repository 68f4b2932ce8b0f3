pub mod Budget
pub mod BudgetLaws
pub mod Reaches
pub mod Ledger
pub mod LedgerLaws
