-- How long the paths of marks are. No rule of markup: what goes through marks goes down from a node to those in it.
use Rattle.std.specs.Prelude.{◌≡◌, ◌≢◌, ℕ, ◌+◌, ◌≤◌, max, Bool, true, false, List, [], ◌∷◌, ◌++◌, map, refl}
use Rattle.std.proofs.Common.{arith}
use Rattle.rst_tree_index.specs.declared.marks.Mark.{Mark}
use Rattle.rst_tree_index.specs.declared.marks.Marks.TheDeep.{deep-Mark}
use Rattle.rst_tree_index.specs.MarkPaths.{AreUsed, longest, node_paths, paths_at, paths_in}
use denote.Param.Weighed.{most}

pub longest-append : (ps qs : List (List ℕ)) → longest (ps ++ qs) ≡ max (longest ps) (longest qs)
longest-append [] qs = omega arith
longest-append (p ∷ ps) qs = omega (arith, longest-append ps qs)

longest-deeper : (place : ℕ) (p : List ℕ) (ps : List (List ℕ)) → longest (map (λ q. place ∷ q) (p ∷ ps)) ≡ longest (p ∷ ps) + 1
longest-deeper place p [] = omega arith
longest-deeper place p (q ∷ ps) = omega (arith, longest-deeper place q ps)

pub longest-below : (place : ℕ) (ps : List (List ℕ)) → ps ≢ [] → longest (map (λ q. place ∷ q) ps) ≡ longest ps + 1
longest-below place [] some = absurd (some refl)
longest-below place (p ∷ ps) some = longest-deeper place p ps

pub longest-inner : (own : Bool) (inner : List (List ℕ)) → longest inner ≤ longest (node_paths own inner)
longest-inner true inner = omega arith
longest-inner false inner = omega arith

-- the paths in a node are shorter than those that lead to it
pub most_le-longest : (ms : List Mark) → AreUsed ms → most deep-Mark ms ≤ longest (paths_in ms)
most_le-longest [] used = omega arith
most_le-longest (m ∷ ms) used =
    omega (arith, most_le-longest ms used.1, longest-append (paths_at m) (paths_in ms), longest-below m.place (node_paths m.own m.inner) used.0, longest-inner m.own m.inner)
