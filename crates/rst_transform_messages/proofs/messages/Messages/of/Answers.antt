use Rattle.std.proofs.Common.{ap, [], None}
use Rattle.rst_transform_messages.specs.Messages.{is_number_marked}
use Rattle.rst_transform_messages.proofs.Listing.{messages_read}
use Rattle.rst_transform_messages.proofs.messages.Messages.of.Goals as goal

pub returns-clause-halt : goal.returns-clause-halt
returns-clause-halt c = (messages_read None c.args.nodes.now _ _ c.in_ok-read_elements.ensures).levels.0

pub returns-clause-report : goal.returns-clause-report
returns-clause-report c = (messages_read None c.args.nodes.now _ _ c.in_ok-read_elements.ensures).levels.1

pub returns-clause-messages : goal.returns-clause-messages
returns-clause-messages c =
    (messages_read None c.args.nodes.now _ _ c.in_ok-read_elements.ensures).adds [] (record { notes = c.in_ok-with_capacity.ensures.items; reported = λ n. ap (λ marks. is_number_marked marks n) c.in_ok-with_capacity-2.ensures.items })

pub returns-clause-early : goal.returns-clause-early
returns-clause-early c = (messages_read None c.args.nodes.now _ _ c.in_ok-read_elements.ensures).early
