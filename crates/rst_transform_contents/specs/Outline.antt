-- The outline of a document: its sections without their bodies (Directives, 'Table of Contents').
use Rattle.std.specs.Prelude.{ℕ, ◌-◌, ◌&&◌, nat_lt, List, [], ◌∷◌, if◌then◌else◌}
use Rattle.rst_tree.specs.declared.node.Node.{Node}
use Rattle.rst_tree.specs.declared.node.Node.TheVariants.{Element}
use Rattle.rst_tree.specs.declared.tag.Tag.TheVariants.{Title}
use Rattle.rst_tree.specs.Forest.{Forest, bare, element, words}
use Rattle.rst_tree.specs.Nodes.{forest_of}
use Rattle.rst_transform_names.specs.NameMessages.{is_section}
use Rattle.rst_transform_contents.specs.Title.{entry_nodes}

-- what an entry has of the title that comes first among the nodes of a section
abbrev pub title_nodes : Forest → List Node
title_nodes (element t a c l r) = entry_nodes c
title_nodes _ = []

-- the title of such a section in the outline
abbrev pub heading : Forest → Node
heading f = Element Title [] (forest_of (title_nodes f)) 0

-- the sections among some nodes, and those in them, to a number of levels: each has its title, and then its sections
abbrev pub outline : ℕ → Forest → List Node
outline k bare = []
outline k (words t r) = outline k r
outline k (element t a c l r) =
    if is_section t && nat_lt 0 k then Element t a (forest_of (heading c ∷ outline (k - 1) c)) l ∷ outline k r else outline k r
