use Rattle.std.proofs.Common.{◌≡◌, true, false, arith, refl, rules, sym, ap, ◌∙◌}
use Rattle.std.specs.Str.{chars}
use Rattle.rst_text.specs.ViewBlock.{block_of}
use Rattle.rst_markup_directives.specs.Argument.{nothing, title, uri}
use Rattle.rst_markup_directives.specs.Kind.{has_blocks}
use Rattle.rst_block_state.specs.Directives.{opened_by}
use Rattle.rst_block_state.specs.looks.Ledger.{argument_lines}
use Rattle.rst_block_state.proofs.Changes.{moved_more}
use Rattle.rst_block_markup.specs.MarkupSteps.{read_of_directive}
use Rattle.rst_block_markup.proofs.DirectiveReads.{closed_read, closed_refused, opened_read, plain_opened}
use Rattle.rst_block_markup.proofs.directive.directive_nodes.Goals as goal

pub returns-then-not-has_blocks : goal.returns-then-not-has_blocks
returns-then-not-has_blocks c =
    let f = c.args.found.now in
    let none : has_blocks f.kind.content ≡ false = sym c.has_blocks.ensures ∙ (let p : c.has_blocks.result ≡ false = search rules in p) in
    let later = c.requires.right.later in
    let looked = c.in_ok-nodes.ensures.looked in
    closed_read f c.in_ok-nodes.nodes.items none (moved_more c.go_to.ensures.moved (c.go_to.ensures.there later) c.in_ok-append.ensures.more)
    later (sym c.in_ok-nodes.ensures.read) (omega (arith, looked.0)) (omega (arith, looked.1))

pub returns-in_err-nodes : goal.returns-in_err-nodes
returns-in_err-nodes c =
    let f = c.args.found.now in
    let none : has_blocks f.kind.content ≡ false = sym c.has_blocks.ensures ∙ (let p : c.has_blocks.result ≡ false = search rules in p) in
    closed_refused f c.in_err-nodes.field-0.0 _ none c.in_err-nodes.ensures.read (search rules)

pub returns-in-Title : goal.returns-in-Title
returns-in-Title c =
    let f = c.args.found.now in
    let blocks : has_blocks f.kind.content ≡ true = sym c.has_blocks.ensures ∙ (let p : c.has_blocks.result ≡ true = search rules in p) in
    opened_read f (title c.in-Title.title) c.titled_block.ensures blocks c.in-Title.is (λ d line lines. refl) (omega (arith, ap argument_lines c.in-Title.is))

pub returns-in-Uri : goal.returns-in-Uri
returns-in-Uri c =
    let f = c.args.found.now in
    let blocks : has_blocks f.kind.content ≡ true = sym c.has_blocks.ensures ∙ (let p : c.has_blocks.result ≡ true = search rules in p) in
    opened_read f (uri (chars c.as_str.result.now)) (c.figure_block.ensures c.args.pass.now) blocks c.in-Uri.is
    (λ d line lines. ap (λ t. opened_by (uri (chars t)) d (block_of c.args.view.now) line (read_of_directive f) lines) c.as_str.ensures.value) (omega arith)

pub returns-in_default : goal.returns-in_default
returns-in_default c =
    let f = c.args.found.now in
    let blocks : has_blocks f.kind.content ≡ true = sym c.has_blocks.ensures ∙ (let p : c.has_blocks.result ≡ true = search rules in p) in
    opened_read f nothing c.plain_block.ensures blocks refl
    (λ d line lines. plain_opened f.argument c.in_default.not-Title c.in_default.not-Uri d (block_of c.args.view.now) line (read_of_directive f) lines) (omega arith)
