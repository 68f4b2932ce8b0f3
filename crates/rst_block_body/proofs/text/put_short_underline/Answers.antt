use Rattle.std.proofs.Common.{◌≡◌, ◌+◌, true, refl, sym, ap, ◌∙◌, rules}
use Rattle.std.specs.Prelude.{◌==◌}
use Rattle.rst_text.specs.Block.{first_number}
use Rattle.rst_text.specs.ViewBlock.{block_of}
use Rattle.rst_markup_blocks.specs.declared.form.TextForm.TheVariants.{ShortUnderline}
use Rattle.rst_block_state.proofs.NextConstructs.{lines_after}
use Rattle.rst_block_body.proofs.text.put_short_underline.Goals as goal

pub returns : goal.returns
returns c =
    let l = c.args.level.now in
    let form : c.args.form ≡ ShortUnderline = search rules in
    let titles : (l.depth == 0) ≡ true = sym c.titles.ensures ∙ (let p : c.titles.result ≡ true = search rules in p) in
    let line = c.number_at-line.ensures ∙ ap first_number (sym (lines_after (block_of c.args.view.now) l.at 1 (l.at + 1) refl)) in
    record { more = rw (form, titles) (rw (c.in_ok-info.ensures, line) at c.push.ensures.more) }
