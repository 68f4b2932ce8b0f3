use Rattle.std.proofs.Common.{◌≡◌, refl, List, ℕ, subst, sym, ◌∙◌, ap, arith, rules, Some, Err, [], ◌∷◌, ◌++◌}
use Rattle.rst_transform_substitutions.specs.declared.expansion.ExpansionFault.TheVariants.{Circular}
use Rattle.rst_transform_substitutions.specs.Definitions.{found_by}
use Rattle.rst_transform_substitutions.specs.Expansion.{expanded_copies, given, Expansion}
use Rattle.rst_transform_substitutions.proofs.Expanding.{circular_within, found-some, given-entered, given-too_deep, undefined_within}
use Rattle.rst_transform_substitutions.specs.Sizes.{content_last}
use Rattle.rst_transform_substitutions.proofs.Sizing.{content_pushed}
use Rattle.rst_transform_substitutions.proofs.expansion.entered.Goals as goal

pub returns-in_default-clause-content : goal.returns-in_default-clause-content
returns-in_default-clause-content c =
    rw (c.in_ok-undefined.ensures) (λ left. undefined_within _ _ _ _ left (rw (sym c.in_ok-place.ensures ∙ c.in_default.is) refl))

pub returns-in_default-content-clause-content : goal.returns-in_default-content-clause-content
returns-in_default-content-clause-content c =
    rw (c.in_ok-undefined-2.ensures) (λ left. undefined_within _ _ _ _ left (rw (sym c.in_ok-place.ensures ∙ c.in-Some.is, c.in_default-content.ensures) refl))

pub returns-then-contains-clause-content : goal.returns-then-contains-clause-content
returns-then-contains-clause-content c = λ left.
    let found : found_by c.args.definitions.now c.args.name.now ≡ Some (c.in-Some.place, c.in-Some-content.content.now) = found-some c.args.definitions.now c.args.name.now _ _ (sym c.in_ok-place.ensures ∙ c.in-Some.is) c.in-Some-content.ensures in
    let circular : List ℕ → Expansion = λ name. Err (Circular name) in
    circular_within _ _ _ _ left _ found (search (rules, c.if-contains.true)) ∙ ap circular (sym c.in_ok-name.ensures)

pub returns-then-len-ge-MOST_NESTED-clause-content : goal.returns-then-len-ge-MOST_NESTED-clause-content
returns-then-len-ge-MOST_NESTED-clause-content c = λ left.
    let found : found_by c.args.definitions.now c.args.name.now ≡ Some (c.in-Some.place, c.in-Some-content.content.now) = found-some c.args.definitions.now c.args.name.now _ _ (sym c.in_ok-place.ensures ∙ c.in-Some.is) c.in-Some-content.ensures in
    given-too_deep _ _ _ left _ found (search (rules, c.if-contains.false)) (omega arith)

pub returns-clause-content : goal.returns-clause-content
returns-clause-content c = λ left.
    let found : found_by c.args.definitions.now c.args.name.now ≡ Some (c.in-Some.place, c.in-Some-content.content.now) = found-some c.args.definitions.now c.args.name.now _ _ (sym c.in_ok-place.ensures ∙ c.in-Some.is) c.in-Some-content.ensures in
    let path : c.args.progress.now.path.items ++ c.in-Some.place ∷ [] ≡ c.push.new.self.items = sym c.in_ok-push.ensures.items in
    given-entered _ _ _ left _ found (search (rules, c.if-contains.false)) (omega arith)
    ∙ ap (λ (path : List ℕ). expanded_copies (given (found_by c.args.definitions.now) path) c.in-Some-content.content.now left) path

pub returns-clause-there : goal.returns-clause-there
returns-clause-there c =
    let path : c.args.progress.now.path.items ++ c.in-Some.place ∷ [] ≡ c.push.new.self.items = sym c.in_ok-push.ensures.items in
    subst (λ path. content_last c.args.definitions.now path ≡ c.in-Some-content.content.now) path (content_pushed c.args.definitions.now c.args.progress.now.path.items c.in-Some.place c.in-Some-content.content.now c.in-Some-content.ensures)
