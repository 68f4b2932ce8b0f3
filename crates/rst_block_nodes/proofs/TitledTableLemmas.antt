-- The columns of tables that get widths.
use Rattle.std.proofs.Common.{◌≡◌, ℕ, List, [], ◌∷◌, refl}
use Rattle.rst_block_nodes.specs.TitledTables.{with_widths}

-- where no node is left, no width is used
pub no_nodes : (widths : List ℕ) → with_widths widths [] ≡ []
no_nodes [] = refl
no_nodes (w ∷ ws) = refl
