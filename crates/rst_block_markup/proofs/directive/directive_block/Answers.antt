use Rattle.std.proofs.Common.{◌≡◌, ◌-◌, ℕ, List, [], ◌∷◌, drop, arith, rules, sym, ap, ◌∙◌, subst}
use Rattle.std.specs.Prelude.{◌==◌}
use Rattle.rst_text.specs.Block.{Block, first_text}
use Rattle.rst_text.specs.ViewBlock.{block_of}
use Rattle.rst_tree.specs.declared.node.Node.{Node}
use Rattle.rst_markup_directives.specs.Directive.{Outcome, directive_outcome}
use Rattle.rst_markup_directives.specs.Wrong.{fault_in}
use Rattle.rst_block_state.specs.Directives.{called, directive_by, fault_node}
use Rattle.rst_block_state.specs.Inside.{directive_blocks}
use Rattle.rst_block_state.specs.looks.Ledger.{unread_at}
use Rattle.rst_block_state.specs.machine.Meanings.{within_at}
use Rattle.rst_block_state.specs.Numbered.{just}
use Rattle.rst_block_state.specs.Texts.{excerpt}
use Rattle.rst_block_markup.specs.MarkupSteps.{place_in}
use Rattle.rst_block_markup.proofs.DirectivesPaid.{AreFew, directive_few}
use Rattle.rst_block_markup.proofs.PartLemmas.{part_as, put_reads}
use Rattle.rst_block_state.proofs.NextConstructs.{span_to}
use Rattle.rst_block_markup.proofs.directive.directive_block.Goals as goal

pub returns-in_ok-error-in-Wrong : goal.returns-in_ok-error-in-Wrong
returns-in_ok-error-in-Wrong c =
    let B : Block = block_of c.args.view.now in
    let l = c.args.level.now in
    let call = c.args.invocation.now in
    let fault = c.in_ok-directive_at.ensures in
    let known : directive_outcome c.in_ok-directive_at.field-0 ≡ called (unread_at l.depth) B l.at call (place_in (l.depth == 0)) = fault.outcome ∙ ap (called (unread_at l.depth) B l.at call) (c.place_in.ensures ∙ ap place_in c.titles.ensures) in
    let same = ap directive_outcome (sym c.in-Wrong.is) ∙ known in
    let name : List ℕ = excerpt (first_text (drop l.at B)) call.name in
    let error : c.in_ok-error-in-Wrong.error ≡ fault_node (fault_in c.in-Wrong.fault) B (span_to l.at call.block.to) name = search rules in
    put_reads c.in_ok-error-in-Wrong.error c.put-in-Wrong.ensures c.requires.later
    (ap (λ (x : Node). just (x ∷ [])) error ∙ ap (λ (o : Outcome). directive_by o (within_at l.depth) B (span_to l.at call.block.to) name) same) (ap (λ (o : Outcome). directive_blocks o B) same) c.directive_at.ensures.numbers
    (omega (arith, fault.looked.0, c.in_ok-error-in-Wrong.ensures.each)) (omega (arith, fault.looked.1, c.wrong_directive.ensures.most, c.requires.begins, c.requires.later))

pub returns-in_ok-node-in-Handed : goal.returns-in_ok-node-in-Handed
returns-in_ok-node-in-Handed c =
    let B : Block = block_of c.args.view.now in
    let l = c.args.level.now in
    let call = c.args.invocation.now in
    let found = c.in_ok-directive_at.ensures in
    let known : directive_outcome c.in_ok-directive_at.field-0 ≡ called (unread_at l.depth) B l.at call (place_in (l.depth == 0)) = found.outcome ∙ ap (called (unread_at l.depth) B l.at call) (c.place_in.ensures ∙ ap place_in c.titles.ensures) in
    let same = ap directive_outcome (sym c.in-Handed.is) ∙ known in
    let name : List ℕ = excerpt (first_text (drop l.at B)) call.name in
    put_reads c.in_ok-node-in-Handed.node c.put.ensures c.requires.later
    (ap (λ (x : Node). just (x ∷ [])) c.in_ok-node-in-Handed.ensures.node ∙ ap (λ (o : Outcome). directive_by o (within_at l.depth) B (span_to l.at call.block.to) name) same) (ap (λ (o : Outcome). directive_blocks o B) same) (c.handed_at.ensures.numbers ∙ c.directive_at.ensures.numbers)
    (omega (arith, found.looked.0, c.in_ok-node-in-Handed.ensures.each)) (omega (arith, found.looked.1, c.handed_at.ensures.most, c.requires.begins, c.requires.later))

pub returns-in-Found : goal.returns-in-Found
returns-in-Found c =
    let B : Block = block_of c.args.view.now in
    let l = c.args.level.now in
    let call = c.args.invocation.now in
    let fault = c.in_ok-directive_at.ensures in
    let known : directive_outcome c.in_ok-directive_at.field-0 ≡ called (unread_at l.depth) B l.at call (place_in (l.depth == 0)) = fault.outcome ∙ ap (called (unread_at l.depth) B l.at call) (c.place_in.ensures ∙ ap place_in c.titles.ensures) in
    let same = ap directive_outcome (sym c.in-Found.is) ∙ known in
    let name : List ℕ = excerpt (first_text (drop l.at B)) call.name in
    let few = subst (AreFew (call.block.to - call.block.from)) c.in-Found.is (directive_few (unread_at l.depth) B l.at call (place_in (l.depth == 0)) c.in_ok-directive_at.field-0 known) in
    part_as c.directive_nodes.ensures (ap (λ (o : Outcome). directive_by o (within_at l.depth) B (span_to l.at call.block.to) name) same) (ap (λ (o : Outcome). directive_blocks o B) same) c.directive_at.ensures.numbers
    (omega (arith, fault.looked.0)) (omega (arith, fault.looked.1, few.0, few.1.0, few.1.1, c.requires.begins, c.requires.later))
