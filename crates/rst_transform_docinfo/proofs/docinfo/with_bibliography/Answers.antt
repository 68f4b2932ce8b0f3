use Rattle.std.proofs.Common.{◌≡◌, ◌∙◌, ◌++◌, append_assoc, ap, ap₂, drop, sym, subst, arith, take}
use Rattle.std.specs.Prelude.{slice_get, true}
use Rattle.std.specs.List.{prefix_len}
use Rattle.std.proofs.lemmas.List.Sums.{prefix_len-le-length}
use Rattle.rst_tree.specs.Nodes.{forest_of}
use Rattle.rst_transform_docinfo.specs.Docinfo.{is_list, leading_list, list_place, nodes_with_docinfo}
use Rattle.rst_transform_work.specs.Reading.{is_title}
use Rattle.rst_transform_docinfo.proofs.Gathering.{list_replaced, list_there}
use Rattle.rst_transform_docinfo.proofs.docinfo.with_bibliography.Goals as goal

pub split_off-requires : goal.split_off-requires
split_off-requires c = omega (arith, c.title_count-first.ensures, c.deref-3.ensures.len, prefix_len-le-length is_title c.deref-3.result.now)

pub returns-clause-nodes : goal.returns-clause-nodes
returns-clause-nodes c =
    let there : c.list_place-place.result ≡ list_place c.into_list-nodes.result.items = c.list_place-place.ensures ∙ ap list_place c.deref.ensures.value in
    let list = list_there c.into_list-nodes.result.items c.list_place-place.result c.remove.result there
    (subst (λ xs. is_list (slice_get xs c.list_place-place.result) ≡ true) c.deref-2.ensures.value (sym c.is_list_at.ensures ∙ c.if-not-is_list_at.false)) c.remove.ensures.value in
    let first_nodes : c.append.new.self.items ≡ take c.title_count-first.result c.remove.new.self.items ++ c.in_ok-made.made.items = c.in_ok-append.ensures.items ∙ ap (λ xs. xs ++ c.in_ok-made.made.items) c.in_ok-rest.ensures.items in
    let put : c.append-2.new.self.items ≡ take c.title_count-first.result c.remove.new.self.items ++ (c.in_ok-made.made.items ++ drop c.title_count-first.result c.remove.new.self.items) =
    c.in_ok-append-2.ensures.items ∙ ap₂ (λ xs ys. xs ++ ys) first_nodes c.in_ok-rest.ensures.tail ∙ append_assoc (take c.title_count-first.result c.remove.new.self.items) c.in_ok-made.made.items (drop c.title_count-first.result c.remove.new.self.items) in
    c.of-2.ensures
    ∙ ap forest_of (list_replaced c.args.parts c.args.context.now.first_number c.args.context.now.reports.items c.into_list-nodes.result.items c.remove.new.self.items c.in_ok-made.made.items c.append-2.new.self.items c.list_place-place.result
    c.title_count-first.result c.remove.result list there c.remove.ensures.items c.in_ok-made.ensures.nodes (c.title_count-first.ensures ∙ ap (prefix_len is_title) c.deref-3.ensures.value) put)
    ∙ ap (λ xs. forest_of (nodes_with_docinfo c.args.parts c.args.context.now.first_number c.args.context.now.reports.items (leading_list xs) xs).0) c.into_list-nodes.ensures.nodes

pub returns-clause-reports : goal.returns-clause-reports
returns-clause-reports c =
    let there : c.list_place-place.result ≡ list_place c.into_list-nodes.result.items = c.list_place-place.ensures ∙ ap list_place c.deref.ensures.value in
    let list = list_there c.into_list-nodes.result.items c.list_place-place.result c.remove.result there
    (subst (λ xs. is_list (slice_get xs c.list_place-place.result) ≡ true) c.deref-2.ensures.value (sym c.is_list_at.ensures ∙ c.if-not-is_list_at.false)) c.remove.ensures.value in
    c.in_ok-made.ensures.reports ∙ sym (ap (λ o. (nodes_with_docinfo c.args.parts c.args.context.now.first_number c.args.context.now.reports.items o c.into_list-nodes.result.items).1) list)
    ∙ ap (λ xs. (nodes_with_docinfo c.args.parts c.args.context.now.first_number c.args.context.now.reports.items (leading_list xs) xs).1) c.into_list-nodes.ensures.nodes
