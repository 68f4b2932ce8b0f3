-- Elements that the first transforms act on. No rule of markup: a document without any is left as it is.
use Rattle.std.specs.Prelude.{Bool, ◌||◌}
use Rattle.rst_tree.specs.Walk.{Item}
use Rattle.rst_tree_index.specs.Kinds.{is_substitution_reference, is_internal}

-- a substitution reference or an internal target
abbrev pub is_early : Item → Bool
is_early x = is_substitution_reference x.tag || is_internal x
