use Rattle.rst_block.proofs.BudgetLemmas.{high, low}
use Rattle.rst_block.proofs.CellFacts.{cells_trimmed}
use Rattle.rst_block.proofs.OpenedFacts.{blocks_inside}
use Rattle.rst_block.proofs.laws.budget_bounds_totals.Goals as goal

pub returns : goal.returns
returns c = record { inside = blocks_inside; cells = cells_trimmed; high = high blocks_inside cells_trimmed; low = low }
