use Rattle.std.proofs.Common.{◌≡◌, [], ◌++◌, ap, sym, ◌∙◌, subst, IfOk}
use Rattle.std.specs.Vec.Iter.{into_iter_items}
use Rattle.std.proofs.lemmas.List.{nil_from_length}
use Rattle.rst_tree.specs.declared.node.Node.{Node}
use Rattle.rst_block_nodes.specs.OpenSections.{document_with_items}
use Rattle.rst_block_nodes.specs.Sections.{document_of, items_of}
use Rattle.rst_block_nodes.proofs.SectionLemmas.{all_closed, begins, holding, title_met, last_met}
use Rattle.rst_block_nodes.proofs.sectioning.document.Goals as goal

pub loop-heading-init : goal.loop-heading-init
loop-heading-init c =
    begins (record { outer = c.new.result; current = record { element = c.element.result; nodes = c.none.result }; styles = c.new-2.result }) _ c.new.ensures.items c.new-2.ensures.items c.element.ensures
    c.none.ensures
    ∙ ap (λ hs. document_of (items_of hs c.args.nodes)) c.into_iter-heading-iterator.ensures.into_iter_gives.0

pub loop-heading-preserved : goal.loop-heading-preserved
loop-heading-preserved c =
    let s = c.loop-heading.sections in
    title_met s c.title.new.self c.in-Some.heading (into_iter_items c.next.new.self) c.append.new.self c.args.nodes
    (c.in_ok-append.ensures ∙ ap (λ ns. s.current.nodes ++ ns) c.replace-before.ensures.value) c.in_ok-title.ensures
    ∙ ap (λ hs. document_with_items s (items_of hs c.args.nodes)) (sym c.in-Some.ensures.steps.0) ∙ c.loop-heading.invariant

pub returns : goal.returns
returns c =
    let s = c.loop-heading.sections in
    let none : into_iter_items c.loop-heading.heading-iterator ≡ [] = nil_from_length _ (sym c.loop-heading.heading-iterator.rest.ok.0 ∙ c.in-None.ensures.steps.0) in
    subst (λ (n : Node). IfOk c.completed.result (λ root. root ≡ n))
    (all_closed (holding s c.append-2.new.self) c.end.new.self c.in_ok-end.ensures.closed c.in_ok-end.ensures.few
    ∙ last_met s c.append-2.new.self c.args.nodes c.in_ok-append-2.ensures ∙ ap (λ hs. document_with_items s (items_of hs c.args.nodes)) (sym none) ∙ c.loop-heading.invariant) c.completed.ensures
