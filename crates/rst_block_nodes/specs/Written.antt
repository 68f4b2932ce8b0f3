-- Titles that are written out, for worked examples. No rule of markup.
use Prim.Native.String.{String}
use Rattle.std.specs.Prelude.{ℕ, Bool, List, codes, Option}
use Rattle.rst_tree.specs.declared.node.Node.{Node}
use Rattle.rst_tree.specs.declared.tag.Tag.TheVariants.{Title as TitleTag}
use Rattle.rst_block_nodes.specs.Elements.{plain_node}
use Rattle.rst_block_nodes.specs.Sections.{Item, titled}

-- A title by the character of its adornment, by whether it has an overline, by the number of its line and by its text; with messages on the text
-- and on the adornment. Its lines are its text alone.
abbrev pub title : ℕ → Bool → ℕ → String → List Node → Option Node → Item
title character overlined line text notes warning = titled (record {
  style = record { character = character; overlined = overlined };
  element = plain_node TitleTag line (codes text);
  notes = notes;
  warning = warning;
  line = line;
  source = codes text;
})
