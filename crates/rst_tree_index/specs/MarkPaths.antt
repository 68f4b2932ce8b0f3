-- Marks as the paths of what they mark. No rule of markup: a tree of marks means the same as these paths.
use Rattle.std.specs.Prelude.{◌≢◌, ℕ, ◌+◌, max, Bool, if◌then◌else◌, List, [], ◌∷◌, ◌++◌, length, map}
use Rattle.rst_tree_index.specs.declared.marks.Mark.{Mark}

-- the paths of a node that is marked itself or isn't, and that has marks in it
abbrev pub node_paths : Bool → List (List ℕ) → List (List ℕ)
node_paths own inner = (if own then [] ∷ [] else []) ++ inner

-- the same, seen from the parent of the node
abbrev pub paths_at : Mark → List (List ℕ)
paths_at m = map (λ p. m.place ∷ p) (node_paths m.own m.inner)

-- the paths of some nodes, seen from their parent
abbrev pub paths_in : List Mark → List (List ℕ)
paths_in [] = []
paths_in (m ∷ ms) = paths_at m ++ paths_in ms

-- each of the nodes is marked or has marks in it
abbrev pub AreUsed : List Mark → Type 0
AreUsed [] = Unit {0}
AreUsed (m ∷ ms) = (node_paths m.own m.inner ≢ []) × AreUsed ms

-- the length of the longest path, and one more; 0 where there is no path
abbrev pub longest : List (List ℕ) → ℕ
longest [] = 0
longest (p ∷ ps) = max (length p + 1) (longest ps)
