-- Tables of contents, as they are made.
use Rattle.std.proofs.Common.{◌≡◌, ℕ, List, ◌∷◌, length, Ok, Some, sym, ap, ◌∙◌}
use Rattle.rst_settings.specs.declared.Parts.{Parts}
use Rattle.rst_tree.specs.declared.node.Node.{Node}
use Rattle.rst_tree.specs.declared.tag.Tag.TheVariants.{Title}
use Rattle.rst_markup_directives.specs.Options.{OptionSetting}
use Rattle.rst_block_nodes.specs.Numbered.{just, then_read}
use Rattle.rst_block_nodes.specs.Readings.{texted}
use Rattle.rst_block_nodes.specs.TableOfContents.{table_of_contents, titled_table}

-- a table with a title, and the messages on the title after it
pub titled_read : (parts : Parts) (choices : List OptionSetting) (text : List ℕ) (line n m : ℕ) (title : Node) (notes nodes : List Node) → texted parts Title line text line n ≡ Ok ((title, notes), m)
    → nodes ≡ titled_table choices title (length notes) line ∷ notes → table_of_contents parts choices (Some text) line n ≡ Ok (nodes, m)
titled_read parts choices text line n m title notes nodes read made =
    ap (then_read (λ (made : Node × List Node). just (titled_table choices made.0 (length made.1) line ∷ made.1))) read ∙ ap (λ (ns : List Node). Ok (ns, m)) (sym made)
