use Rattle.std.proofs.Common.{ap, ◌∙◌, arith}
use Rattle.rst_transform_names.specs.Registering.{with_member, with_message_changed}
use Rattle.rst_transform_names.proofs.RegistryLemmas.{changed_there, changed_after}
use Rattle.rst_transform_names.proofs.message_ids.KnownMessages.add.Goals as goal

pub returns-in_ok-add-clause-messages : goal.returns-in_ok-add-clause-messages
returns-in_ok-add-clause-messages c =
    let change = with_member c.args.new.tag c.args.number in
    let messages = c.args.self.now.messages.items in
    changed_there change c.in-Some.message messages c.index_mut.result.now c.add.new.self (omega arith) (c.in_ok-add.ensures ∙ ap change c.index_mut.ensures.value) ∙ ap (λ m. with_message_changed m change messages) c.in-Some.ensures

pub returns-else-message-len-clause-messages : goal.returns-else-message-len-clause-messages
returns-else-message-len-clause-messages c =
    let change = with_member c.args.new.tag c.args.number in
    let messages = c.args.self.now.messages.items in
    changed_after change c.in-Some.message messages (omega arith) ∙ ap (λ m. with_message_changed m change messages) c.in-Some.ensures
