use Rattle.std.proofs.Common.{rules, ap, ◌∙◌}
use Rattle.std.specs.Str.{chars}
use Rattle.rst_block_nodes.specs.Terms.{ended_groups, heads_of}
use Rattle.rst_block_nodes.proofs.HeadLemmas.{lists_of}
use Rattle.rst_block_nodes.proofs.MessageLemmas.{messages_from_length}
use Rattle.rst_block_nodes.proofs.ReadLemmas.{headed_text}
use Rattle.rst_block_nodes.proofs.ReadingBridges.{termed_read}
use Rattle.rst_block_nodes.proofs.terms.term_and_classifiers.Goals as goal

pub returns-clause-text : goal.returns-clause-text
returns-clause-text c =
    headed_text c.args.parts.now (chars c.args.text.now) c.deref.result.now c.deref-2.result.now c.args.line _ c.len-2.result c.in_ok-pieces.pieces.items c.deref-3.result.now c.in_ok-nodes.field-0 (lists_of c.in_ok-plain.plain.items) c.in_ok-nodes.field-0.nodes.items (record { heads = c.in_ok-heads.heads; notes = c.in_ok-notes.notes }) (search rules) (search rules) (search rules) c.in_ok-pieces.ensures c.in_ok-nodes.ensures.read c.in_ok-plain.ensures (search rules) (search rules) (c.in_ok-heads.ensures ∙ ap (λ ns. heads_of c.len-2.result c.args.line (ended_groups ns)) c.in_ok-nodes-2.ensures) (search rules)

pub returns-clause-read : goal.returns-clause-read
returns-clause-read c =
    termed_read c.args.parts.now (chars c.args.text.now) c.args.line c.args.numbers.now c.give.new.self (record { heads = c.in_ok-heads.heads; notes = c.in_ok-notes.notes }) (returns-clause-text c) (search (rules, messages_from_length))
