use Rattle.std.proofs.Common.{drop, refl, ap, ◌∙◌, arith, rules}
use Rattle.std.specs.Prelude.{◌==◌}
use Rattle.rst_text.specs.ViewBlock.{block_of}
use Rattle.rst_block_state.specs.looks.Ledger.{run_looks}
use Rattle.rst_block_state.proofs.Changes.{more_as, more_more}
use Rattle.rst_block_state.proofs.NextConstructs.{next_of_form, next_within}
use Rattle.rst_block_body.specs.TextSteps.{form_notes}
use Rattle.rst_block_body.proofs.ReadLemmas.{alone_refused}
use Rattle.rst_block_body.proofs.TextLines.{alone_form, paragraph_next, paragraph_items, underlined_items}
use Rattle.rst_block_body.proofs.TextsPaid.{flat_read, paragraph_looks}
use Rattle.rst_block_body.proofs.text.title_or_paragraph.Goals as goal

pub returns-in_err-close : goal.returns-in_err-close
returns-in_err-close c =
    alone_refused c.in_err-close.field-0.0 (next_of_form c.args.infos.items c.requires.text c.requires.form) (alone_form c.args.form _ _ _ c.requires.flat) (search rules) c.in_err-close.ensures.closed

pub underlined-requires : goal.underlined-requires
underlined-requires c =
    let next = next_of_form c.args.infos.items c.requires.text (c.requires.form ∙ c.in-Title.is) in
    omega (arith, next_within next c.requires.inside, c.append.ensures.at, c.close.ensures.at)

pub returns-in_ok-underlined-in-Title : goal.returns-in_ok-underlined-in-Title
returns-in_ok-underlined-in-Title c =
    let next = next_of_form c.args.infos.items c.requires.text (c.requires.form ∙ c.in-Title.is) in
    let closed = c.in_ok-close.ensures.closed in
    let some = c.in_ok-append.ensures.more in
    let read = c.in_ok-underlined-in-Title.ensures in
    flat_read c.requires.inside next tt closed (underlined_items (block_of c.args.view.now) c.in-Title.short _ {pre = c.append.new.self} (some.depth ∙ closed.depth) (some.at ∙ closed.at) some read.read)
    (omega (arith, c.close.ensures.run, read.looked.1)) (omega (arith, c.close.ensures.low, read.looked.0))

pub returns-in_ok-paragraph-in_default : goal.returns-in_ok-paragraph-in_default
returns-in_ok-paragraph-in_default c =
    let B = block_of c.args.view.now in
    let l = c.args.level.now in
    let next = paragraph_next c.args.infos.items c.requires.text c.requires.form c.requires.flat c.in_default.not-Title in
    let closed = c.in_ok-close.ensures.closed in
    let some = c.in_ok-append.ensures.more in
    let info = c.in_ok-put_short_underline-in_default.ensures.more in
    let read = c.in_ok-paragraph-in_default.ensures in
    let before = some.at ∙ closed.at in
    let form = c.args.form in
    let notes = ap (λ d. form_notes form (d == 0) (drop c.append.new.self.at B)) (some.depth ∙ closed.depth) ∙ ap (λ i. form_notes form (l.depth == 0) (drop i B)) before in
    let looks = paragraph_looks B c.put_short_underline.new.level.at (run_looks l.run) c.args.pass.now.looks (info.at ∙ before) c.close.ensures.low c.close.ensures.run read.looked in
    flat_read c.requires.inside next tt closed (paragraph_items B _ {pre = c.put_short_underline.new.level} (info.at ∙ before) (more_more some (more_as notes refl info)) read.read) looks.0 looks.1
