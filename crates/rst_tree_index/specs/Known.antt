-- What is known of some nodes: the marks of those that have any. No rule of markup: it spares a pass over them.
use Rattle.std.specs.Prelude.{ℕ, suc, ◌+◌, ◌-◌, ◌^◌, min, List, [], ◌∷◌, ◌++◌, map}
use Rattle.rst_tree.specs.declared.node.Node.{Node}
use Rattle.rst_tree_index.specs.declared.marks.Mark.{Mark}
use Rattle.rst_tree_index.specs.MarkPaths.{node_paths}
use Rattle.rst_tree_index.specs.Marks.{marks_of}
use Rattle.rst_tree_index.specs.Registered.{is_registered}

-- the place of a node among the others, and its marks
abbrev pub MarkedPlace : Type 0
MarkedPlace = ℕ × List (List ℕ)

abbrev pub place_and_marks : Mark → MarkedPlace
place_and_marks k = (k.place, node_paths k.own k.inner)

-- the same of a node before which `before` others were put
abbrev pub entry_after : ℕ → MarkedPlace → MarkedPlace
entry_after before e = (min (before + e.0) (2 ^ 64 - 1), e.1)

-- what is known of the node at a place that has these marks
abbrev pub known_at : ℕ → List (List ℕ) → List MarkedPlace
known_at i [] = []
known_at i (p ∷ ps) = (i, p ∷ ps) ∷ []

-- and of all nodes from a place on
abbrev pub known_of : ℕ → List Node → List MarkedPlace
known_of i [] = []
known_of i (n ∷ ns) = known_at i (marks_of is_registered n) ++ known_of (suc i) ns

-- the marks, seen from the element that holds the nodes
abbrev pub entry_paths : List MarkedPlace → List (List ℕ)
entry_paths [] = []
entry_paths (e ∷ es) = map (λ p. e.0 ∷ p) e.1 ++ entry_paths es
