use Rattle.std.proofs.Common.{sym, refl, subst}
use Rattle.rst_text.specs.ViewBlock.{block_of}
use Rattle.rst_block_state.specs.machine.NextLine.{IsText}
use Rattle.rst_block_body.proofs.AdornedSteps.{form_is, adorned_next, titled_at_top, wrong_next}
use Rattle.rst_block_body.proofs.ReadLemmas.{adorned_read}
use Rattle.rst_block_body.proofs.adornment.adornment.Goals as goal

pub text_line-requires-clause-text : goal.text_line-requires-clause-text
text_line-requires-clause-text c =
    let B = block_of c.args.view.now in
    let l = c.args.level.now in
    subst (IsText l B) (sym c.new.ensures.items) (adorned_next l B c.requires.begun (form_is l B c.args.mark c.in-Text.is c.adorned_at.ensures.form c.titles.ensures))

pub short-requires-clause-text : goal.short-requires-clause-text
short-requires-clause-text c =
    adorned_next _ _ c.requires.begun (form_is c.args.level.now (block_of c.args.view.now) c.args.mark c.in-ShortOverline.is c.adorned_at.ensures.form c.titles.ensures)

pub short-requires-in-ShortAdornment-clause-text : goal.short-requires-in-ShortAdornment-clause-text
short-requires-in-ShortAdornment-clause-text c =
    adorned_next _ _ c.requires.begun (form_is c.args.level.now (block_of c.args.view.now) c.args.mark c.in-ShortAdornment.is c.adorned_at.ensures.form c.titles.ensures)

pub transition-requires-clause-found : goal.transition-requires-clause-found
transition-requires-clause-found c =
    adorned_next _ _ c.requires.begun (form_is c.args.level.now (block_of c.args.view.now) c.args.mark c.in-Transition.is c.adorned_at.ensures.form c.titles.ensures)

pub overlined-requires-clause-found : goal.overlined-requires-clause-found
overlined-requires-clause-found c =
    adorned_next _ _ c.requires.begun (form_is c.args.level.now (block_of c.args.view.now) c.args.mark c.in-Title.is c.adorned_at.ensures.form c.titles.ensures)

pub overlined-requires-clause-titles : goal.overlined-requires-clause-titles
overlined-requires-clause-titles c = titled_at_top c.args.level.now (block_of c.args.view.now) c.args.mark (form_is c.args.level.now (block_of c.args.view.now) c.args.mark c.in-Title.is c.adorned_at.ensures.form c.titles.ensures)

pub wrong-requires-clause-found : goal.wrong-requires-clause-found
wrong-requires-clause-found c =
    wrong_next _ _ c.wrong_form.result.gravity c.wrong_form.result.text.now c.requires.begun (form_is c.args.level.now (block_of c.args.view.now) c.args.mark refl c.adorned_at.ensures.form c.titles.ensures) c.wrong_form.ensures.message c.wrong_form.ensures.lines

pub returns-in-Text : goal.returns-in-Text
returns-in-Text c = adorned_read _ c.text_line.ensures c.requires.inside refl c.below_text-next.ensures.looked c.adorned_at.ensures.looked

pub returns-in-ShortOverline : goal.returns-in-ShortOverline
returns-in-ShortOverline c = adorned_read _ c.short.ensures c.requires.inside refl c.below_text-next.ensures.looked c.adorned_at.ensures.looked

pub returns-in-ShortAdornment : goal.returns-in-ShortAdornment
returns-in-ShortAdornment c = adorned_read _ c.short-in-ShortAdornment.ensures c.requires.inside refl c.below_text-next.ensures.looked c.adorned_at.ensures.looked

pub returns-in-Transition : goal.returns-in-Transition
returns-in-Transition c = adorned_read _ c.transition.ensures c.requires.inside refl c.below_text-next.ensures.looked c.adorned_at.ensures.looked

pub returns-in-Title : goal.returns-in-Title
returns-in-Title c = adorned_read _ c.overlined.ensures c.requires.inside refl c.below_text-next.ensures.looked c.adorned_at.ensures.looked

pub returns-in_default : goal.returns-in_default
returns-in_default c = adorned_read _ c.wrong.ensures c.requires.inside refl c.below_text-next.ensures.looked c.adorned_at.ensures.looked
