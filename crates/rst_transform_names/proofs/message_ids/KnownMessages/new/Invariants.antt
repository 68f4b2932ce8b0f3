use Rattle.std.proofs.Common.{◌≡◌, [], None, replicate}
use Rattle.rst_transform_names.proofs.message_ids.KnownMessages.new.Given as goal

abbrev pub invariant-loop-done : goal.invariant-loop-done
invariant-loop-done l = (l.known_messages.numbers.items ≡ []) × (l.known_messages.messages.items ≡ replicate l._done (record { id = None; problematics = [] }))
