use Rattle.std.proofs.Common.{◌∙◌, arith, rules}
use Rattle.std.proofs.lemmas.Grind.{common_steps}
use Rattle.std.specs.Str.{chars}
use Rattle.rst_block_nodes.proofs.MessageLemmas.{messages_from_length}
use Rattle.rst_block_nodes.proofs.ReadingBridges.{texted_read}
use Rattle.rst_block_nodes.proofs.texted.with_text.Goals as goal

pub returns-clause-text : goal.returns-clause-text
returns-clause-text c =
    let read = c.in_ok-nodes.field-0 in
    (read, c.in_ok-nodes.ensures.read, record { element = search rules; notes = search rules })

pub returns-clause-read : goal.returns-clause-read
returns-clause-read c = texted_read c.args.parts.now c.args.tag c.args.line (chars c.args.text.now) c.args.text_line c.args.numbers.now c.give.new.self _ (returns-clause-text c) (search (rules, messages_from_length))

pub returns-then-is_empty-clause-text : goal.returns-then-is_empty-clause-text
returns-then-is_empty-clause-text c =
    let read = c.in_ok-nodes.field-0 in
    (read, c.in_ok-nodes.ensures.read, record { element = search rules; notes = grind (arith, common_steps) })

pub returns-then-is_empty-clause-read : goal.returns-then-is_empty-clause-read
returns-then-is_empty-clause-read c = texted_read c.args.parts.now c.args.tag c.args.line (chars c.args.text.now) c.args.text_line c.args.numbers.now c.inline.new.self _ (returns-then-is_empty-clause-text c) (c.inline.ensures.given ∙ search rules)
