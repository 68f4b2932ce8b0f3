-- What registration leaves of an element is an element of its kind.
use Rattle.std.proofs.Common.{◌≡◌, ℕ, Option, Some, None, refl, ap}
use Rattle.std.proofs.lemmas.Bool.{cond_both}
use Rattle.rst_tree.specs.declared.node.Node.{Node}
use Rattle.rst_tree.specs.declared.node.Node.TheVariants.{Element, Text}
use Rattle.rst_tree.specs.declared.tag.Tag.{Tag}
use Rattle.rst_tree.specs.Walk.{item}
use Rattle.rst_tree_index.specs.Registered.{is_registered}
use Rattle.rst_transform_names.specs.Registering.{registered, registration}
use Rattle.rst_transform_names.specs.Written.{given, with_given}

abbrev pub kind_of : Node → Option Tag
kind_of (Element t a c l) = Some t
kind_of (Text t) = None

pub registered_kind : (messages : ℕ) (document : Node) → kind_of (registration messages document).root ≡ kind_of document
registered_kind messages (Text t) = refl
registered_kind messages (Element t a c l) =
    let r = registered messages (Element t a c l) in ap Some (cond_both (is_registered (item t a l)) (with_given (given r.standings r.numbers r.messages) (item t a l)) (item t a l) (λ x. x.tag ≡ t) (λ _. refl) (λ _. refl))
