use Rattle.std.proofs.Common.{ap, sym, ◌∙◌, ◌≡◌, ◌≤◌, length, true, arith}
use Rattle.std.proofs.lemmas.Bool.{le-ltb}
use Rattle.rst_tree.specs.Paths.{node_at}
use Rattle.rst_tree.specs.Tree.{is_element, is_tree, most_levels}
use Rattle.rst_tree.proofs.FitsLaw.{fits_inside, fits_none}
use Rattle.rst_tree.proofs.tree.Tree.fits.Goals as goal

pub returns-then-at-lt-MOST_LEVELS : goal.returns-then-at-lt-MOST_LEVELS
returns-then-at-lt-MOST_LEVELS c =
    let is : is_tree c.args.self.now ≡ true = ap is_tree (sym c.self.view_is) ∙ c.self.invariant in
    let there : is_element (node_at c.args.at.now c.args.self.now) ≡ true =
    ap (λ n. is_element (node_at c.args.at.now n)) (sym c.self.view_is) ∙ sym c.is_element_at.ensures ∙ c.if-not-is_element_at.false in
    fits_inside c.args.at.now c.args.node.now c.args.self.now c.is_tree_within.result is there c.if-at-lt-MOST_LEVELS.true c.is_tree_within.ensures

pub returns-else-at-lt-MOST_LEVELS : goal.returns-else-at-lt-MOST_LEVELS
returns-else-at-lt-MOST_LEVELS c =
    let is : is_tree c.args.self.now ≡ true = ap is_tree (sym c.self.view_is) ∙ c.self.invariant in
    let there : is_element (node_at c.args.at.now c.args.self.now) ≡ true =
    ap (λ n. is_element (node_at c.args.at.now n)) (sym c.self.view_is) ∙ sym c.is_element_at.ensures ∙ c.if-not-is_element_at.false in
    let deep : most_levels ≤ length c.args.at.now = omega (arith, c.if-at-lt-MOST_LEVELS.false) in
    le-ltb (length c.args.at.now) most_levels deep ∙ fits_none c.args.at.now c.args.node.now c.args.self.now is there deep
