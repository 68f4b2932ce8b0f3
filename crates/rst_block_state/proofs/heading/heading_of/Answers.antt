use Rattle.std.specs.Prelude.{string_bytes}
use Rattle.std.specs.Str.{chars}
use Rattle.rst_tree.specs.declared.tag.Tag.TheVariants.{Title as TitleTag}
use Rattle.rst_block_nodes.proofs.ReadingBridges.{texted_read}
use Rattle.rst_block_state.proofs.TextsRead.{title_reads}
use Rattle.rst_block_state.proofs.heading.heading_of.Goals as goal

pub returns-clause-title : goal.returns-clause-title
returns-clause-title c =
    let made = c.in_ok-title.title in
    title_reads c.args.parts.now c.args.style (chars c.args.text.now) c.args.line c.args.warning (string_bytes c.args.source) c.args.pass.now.numbers c.with_text.new.numbers made.element made.notes.items
    (texted_read c.args.parts.now TitleTag c.args.line (chars c.args.text.now) c.args.line c.args.pass.now.numbers c.with_text.new.numbers made c.in_ok-title.ensures.text c.in_ok-title.ensures.numbers)
