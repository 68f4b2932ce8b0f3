use Rattle.std.proofs.Common.{sym, true, false}
use Rattle.rst2pseudoxml_run.proofs.ErrorTextLemmas.{halting_last}
use Rattle.rst2pseudoxml_run.proofs.error_text.halting.Goals as goal

pub returns-then-is_reached : goal.returns-then-is_reached
returns-then-is_reached c =
    sym (halting_last c.args.settings.now c.args.notes.now c.in-Some.note.now true (sym c.in-Some.ensures.value) (cc))

pub returns-else-is_reached : goal.returns-else-is_reached
returns-else-is_reached c =
    sym (halting_last c.args.settings.now c.args.notes.now c.in-Some.note.now false (sym c.in-Some.ensures.value) (cc))
