use Rattle.std.proofs.Common.{sym, ◌∙◌}
use Rattle.rst_transform_names.proofs.IdNumbers.{no_first, reads, unread}
use Rattle.rst_transform_names.proofs.ids.number_in.Goals as goal

pub returns-then-not-begins_from_one : goal.returns-then-not-begins_from_one
returns-then-not-begins_from_one c = sym (no_first _ (sym c.begins_from_one.ensures ∙ c.if-not-begins_from_one.true))

pub returns-in-Ok : goal.returns-in-Ok
returns-in-Ok c = sym (reads c.args.digits.now (sym c.begins_from_one.ensures ∙ c.if-not-begins_from_one.false) c.in-Ok.number c.in-Ok.ensures.value.0)

pub returns-in-Err : goal.returns-in-Err
returns-in-Err c = sym (unread c.args.digits.now (sym c.begins_from_one.ensures ∙ c.if-not-begins_from_one.false) c.in-Err.field-0 c.in-Err.ensures.value.0)
