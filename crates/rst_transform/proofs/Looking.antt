-- Documents that the first transforms leave as they are.
use Rattle.std.proofs.Common.{◌≡◌, false, List, [], ◌∷◌, refl}
use Rattle.std.specs.List.{list_any}
use Rattle.std.proofs.lemmas.Bool.{or_from, or_parts}
use Rattle.rst_tree.specs.Walk.{Item}
use Rattle.rst_tree_index.specs.Kinds.{is_substitution_reference, is_internal}
use Rattle.rst_transform_messages.specs.Early.{is_early}

-- then there is no substitution reference and no internal target
pub neither : (xs : List Item) → list_any is_early xs ≡ false → (list_any (λ x. is_substitution_reference x.tag) xs ≡ false) × (list_any is_internal xs ≡ false)
neither [] none = (refl, refl)
neither (x ∷ xs) none =
    let both = or_parts (is_early x) (list_any is_early xs) none in
    let own = or_parts (is_substitution_reference x.tag) (is_internal x) both.0 in
    let more = neither xs both.1 in
    (or_from (is_substitution_reference x.tag) (list_any (λ x. is_substitution_reference x.tag) xs) own.0 more.0, or_from (is_internal x) (list_any is_internal xs) own.1 more.1)
