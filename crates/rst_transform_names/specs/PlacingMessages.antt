-- The messages on equal names in the code that places them. No rule of markup.
use Rattle.std.specs.Prelude.{ℕ, Bool, true, not, ◌&&◌, ◌||◌, List, Option, is_some, option_and_then}
use Rattle.rst_tree.specs.declared.attrs.Attr.{Attr}
use Rattle.rst_tree.specs.declared.key.Key.TheVariants.{Serial, TextMessages}
use Rattle.rst_tree.specs.declared.node.Node.{Node}
use Rattle.rst_tree.specs.declared.tag.Tag.{Tag}
use Rattle.rst_tree.specs.Attributes.{as_number, value_of}
use Rattle.rst_tree.specs.Forest.{Forest, bare, element, words}
use Rattle.rst_transform_names.specs.declared.inside.Inside.{Inside}
use Rattle.rst_transform_names.specs.NameMessages.{is_section, takes_in, Filled}

-- what is made of nodes
abbrev pub seen : Inside → Filled
seen inside = record { nodes = inside.nodes.items; before = inside.before.items; queue = inside.queue.items }

-- given the messages on names, an element itself gives nothing that is placed
abbrev pub gives_none : (ℕ → Option Node) → Tag → List Attr → Bool
gives_none messages t a =
    not (is_section t || (is_some (as_number (value_of TextMessages a)) || is_some (option_and_then messages (as_number (value_of Serial a)))))

-- nor does any among nodes, or in them
abbrev pub are_quiet : (ℕ → Option Node) → Forest → Bool
are_quiet messages bare = true
are_quiet messages (words t r) = are_quiet messages r
are_quiet messages (element t a c l r) = (gives_none messages t a && are_quiet messages c) && are_quiet messages r

-- neither an element nor any in it does, and it takes in no queue
abbrev pub is_quiet : (ℕ → Option Node) → Tag → List Attr → Forest → Bool
is_quiet messages t a c = not (takes_in t) && (gives_none messages t a && are_quiet messages c)
