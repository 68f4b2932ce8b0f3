use Rattle.std.proofs.Common.{◌≡◌, map, ap, ap₂, subst, length, ◌∙◌, arith}
use Rattle.rst_tree.specs.Walk.{walked_node}
use Rattle.rst_tree_index.specs.Marks.{heeded_next, heeded_out}
use Rattle.rst_tree_index.specs.Registered.{is_registered, item_of}
use Rattle.rst_transform_names.specs.NameMessages.{message_on, with_name_messages}
use Rattle.rst_transform_names.specs.Registering.{all_registered, nothing_known, registered, written, Holds}
use Rattle.rst_transform_names.specs.Written.{left_after, with_given}
use Rattle.rst_transform_names.proofs.RegistryLemmas.{given_same}
use Rattle.rst_transform_names.proofs.registration.register.Goals as goal

pub returns : goal.returns
returns c =
    let filled = c.in_ok-registry.registry in
    let r = registered c.args.messages c.args.document in
    let elements = ap (map item_of) c.deref.ensures.value ∙ c.in_ok-elements.ensures in
    let h = subst (λ es. Holds filled (all_registered es (nothing_known c.args.messages))) elements c.in_ok-registry.ensures in
    let wrote : c.in_ok-written.written ≡ written r c.args.document = c.in_ok-written.ensures.node ∙ ap (λ g. walked_node (heeded_next is_registered left_after) (heeded_out is_registered with_given) g c.args.document) (c.of-writing.ensures ∙ given_same filled r h) in
    record {
      root = c.in_ok-place_name_messages.ensures ∙ ap₂ (λ ms n. with_name_messages (message_on ms) n) (c.as_slice.ensures.value ∙ h.name_messages) wrote;
      ids = h.ids;
      names = h.names;
      serials = omega (arith, c.len-serials.ensures, filled.standings.ok.0, ap length h.standings);
    }
