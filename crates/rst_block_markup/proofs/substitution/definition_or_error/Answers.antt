use Rattle.std.proofs.Common.{◌≡◌, ◌-◌, ℕ, List, [], ◌∷◌, drop, arith, rules, sym, ap, ◌∙◌, subst}
use Rattle.std.specs.Prelude.{string_bytes}
use Rattle.rst_text.specs.Block.{Block, first_number, first_text}
use Rattle.rst_text.specs.ViewBlock.{block_of}
use Rattle.rst_tree.specs.declared.node.Node.{Node}
use Rattle.rst_markup_directives.specs.Directive.{Outcome, directive_outcome}
use Rattle.rst_markup_directives.specs.Wrong.{fault_in}
use Rattle.rst_markup_directives.specs.declared.found.Place.TheVariants.{Substitution}
use Rattle.rst_block_nodes.specs.Elements.{substitution_definition_node}
use Rattle.rst_block_nodes.specs.Sections.{filled}
use Rattle.rst_block_state.specs.Directives as directives
use Rattle.rst_block_state.specs.Inside.{directive_blocks}
use Rattle.rst_block_state.specs.looks.Ledger.{unread_at}
use Rattle.rst_block_state.specs.machine.Meanings.{within_at}
use Rattle.rst_block_state.specs.Numbered.{just}
use Rattle.rst_block_state.specs.Texts.{excerpt}
use Rattle.rst_block_markup.proofs.DirectivesPaid.{AreFew, directive_few}
use Rattle.rst_block_markup.proofs.PartLemmas.{part_as, put_reads}
use Rattle.rst_block_state.proofs.NextConstructs.{span_to}
use Rattle.rst_block_markup.proofs.substitution.definition_or_error.Goals as goal

pub returns-in_ok-error-in-Wrong : goal.returns-in_ok-error-in-Wrong
returns-in_ok-error-in-Wrong c =
    let B : Block = block_of c.args.view.now in
    let l = c.args.level.now in
    let call = c.args.invocation.now in
    let s = span_to l.at c.args.end in
    let name : List ℕ = string_bytes c.args.name in
    let written : List ℕ = excerpt (first_text (drop l.at B)) call.name in
    let looked = c.in_ok-directive_at.ensures.looked in
    let known : directive_outcome c.in_ok-directive_at.field-0 ≡ directives.called (unread_at l.depth) B l.at call Substitution = c.in_ok-directive_at.ensures.outcome in
    let same = ap directive_outcome (sym c.in-Wrong.is) ∙ known in
    let fault = fault_in c.in-Wrong.fault in
    let error : c.in_ok-error-in-Wrong.error ≡ directives.fault_node fault B s (directives.faulty_name fault name written) = search rules in
    put_reads c.in_ok-error-in-Wrong.error c.put-in-Wrong.ensures c.requires.later
    (ap (λ (x : Node). just (x ∷ [])) error ∙ ap (λ (o : Outcome). directives.definition_or_error o (within_at l.depth) B s name written) same) (ap (λ (o : Outcome). directive_blocks o B) same) c.directive_at.ensures.numbers
    (omega (arith, looked.0, c.in_ok-error-in-Wrong.ensures.each)) (omega (arith, looked.1, c.wrong_directive.ensures.most, c.requires.begins.0, c.requires.begins.1, c.requires.later))

pub returns-in_ok-filled-in-Handed : goal.returns-in_ok-filled-in-Handed
returns-in_ok-filled-in-Handed c =
    let B : Block = block_of c.args.view.now in
    let l = c.args.level.now in
    let call = c.args.invocation.now in
    let s = span_to l.at c.args.end in
    let name : List ℕ = string_bytes c.args.name in
    let written : List ℕ = excerpt (first_text (drop l.at B)) call.name in
    let looked = c.in_ok-directive_at.ensures.looked in
    let known : directive_outcome c.in_ok-directive_at.field-0 ≡ directives.called (unread_at l.depth) B l.at call Substitution = c.in_ok-directive_at.ensures.outcome in
    let same = ap directive_outcome (sym c.in-Handed.is) ∙ known in
    let definition : c.in_ok-filled-in-Handed.field-0 ≡ filled (substitution_definition_node name (first_number (drop l.at B))) (directives.handed_directive B s written ∷ []) = search rules in
    put_reads c.in_ok-filled-in-Handed.field-0 c.put.ensures c.requires.later
    (ap (λ (x : Node). just (x ∷ [])) definition ∙ ap (λ (o : Outcome). directives.definition_or_error o (within_at l.depth) B s name written) same) (ap (λ (o : Outcome). directive_blocks o B) same) (c.handed_at.ensures.numbers ∙ c.directive_at.ensures.numbers)
    (omega (arith, looked.0, c.in_ok-node-in-Handed.ensures.each)) (omega (arith, looked.1, c.handed_at.ensures.most, c.requires.begins.0, c.requires.begins.1, c.requires.later))

pub returns-in-Found : goal.returns-in-Found
returns-in-Found c =
    let B : Block = block_of c.args.view.now in
    let l = c.args.level.now in
    let call = c.args.invocation.now in
    let s = span_to l.at c.args.end in
    let written : List ℕ = excerpt (first_text (drop l.at B)) call.name in
    let looked = c.in_ok-directive_at.ensures.looked in
    let known : directive_outcome c.in_ok-directive_at.field-0 ≡ directives.called (unread_at l.depth) B l.at call Substitution = c.in_ok-directive_at.ensures.outcome in
    let same = ap directive_outcome (sym c.in-Found.is) ∙ known in
    let few = subst (AreFew (call.block.to - call.block.from)) c.in-Found.is (directive_few (unread_at l.depth) B l.at call Substitution c.in_ok-directive_at.field-0 known) in
    part_as c.definition_of.ensures (ap (λ (o : Outcome). directives.definition_or_error o (within_at l.depth) B s (string_bytes c.args.name) written) same) (ap (λ (o : Outcome). directive_blocks o B) same)
    c.directive_at.ensures.numbers (omega (arith, looked.0)) (omega (arith, looked.1, few.0, few.1.0, few.1.1, c.requires.begins.0, c.requires.begins.1, c.requires.later))
