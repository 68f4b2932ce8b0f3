use Rattle.std.proofs.Common.{◌≡◌, ◌+◌, ◌∷◌, drop, map, refl, sym, ap, subst, ◌∙◌, arith, drop_of_length-le}
use Rattle.std.proofs.lemmas.List.{drop_more}
use Rattle.rst_tree_index.specs.Registered.{item_of}
use Rattle.rst_transform_names.specs.Registering.{all_registered, nothing_known, with_element, Holds}
use Rattle.rst_transform_names.proofs.registry.registry_of.Goals as goal

pub loop-new-init : goal.loop-new-init
loop-new-init c = (nothing_known c.args.messages, c.in_ok-registry.ensures, refl)

pub loop-new-preserved : goal.loop-new-preserved
loop-new-preserved c =
    let h = c.loop-new.invariant in
    let elements = c.args.elements.now in
    let cut : drop c.loop-new.new-index elements ≡ c.new-item.result ∷ drop (c.loop-new.new-index + 1) elements = drop_more elements c.loop-new.new-index c.new-item.result (omega arith) ∙ ap (λ x. x ∷ drop (c.loop-new.new-index + 1) elements) (sym c.new-item.is) in
    (with_element (item_of c.new-item.result) h.0, c.in_ok-register.ensures h.0 h.1, ap (λ l. all_registered (map item_of l) h.0) (sym cut) ∙ h.2)

pub returns : goal.returns
returns c =
    let h = c.loop-new.invariant in
    let none = drop_of_length-le c.args.elements.now (omega arith) in
    subst (Holds c.loop-new.registry) (ap (λ l. all_registered (map item_of l) h.0) (sym none) ∙ h.2) h.1
