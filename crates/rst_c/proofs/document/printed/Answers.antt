use Rattle.rst_text.specs.Counted.{inner_of}
use Rattle.rst_c.proofs.Answering.{memory_gone, passed_on, source_refused, text_printed, text_refused}
use Rattle.rst_c.proofs.document.printed.Goals as goal

pub returns-in_default-from_utf8 : goal.returns-in_default-from_utf8
returns-in_default-from_utf8 c = rw c.in-Some.is (source_refused c.in-Some.settings c.args.source.now c.args.text.now c.in_default-from_utf8.ensures.cases.0)

pub returns-in_err-finished : goal.returns-in_err-finished
returns-in_err-finished c =
    rw (c.in-Some.is, passed_on c.from_residual.result c.in_err-finished.field-0.0 c.from_residual.ensures.1)
    (text_refused c.in-Some.settings c.args.source.now c.args.text.now c.in_err-finished.field-0.0 c.in-Ok.ensures.cases.1 c.in_err-finished.ensures)

pub returns-in-Done : goal.returns-in-Done
returns-in-Done c =
    let shows = c.in-Done.ensures.shows in
    rw c.in-Some.is
    (text_printed c.in-Some.settings c.args.source.now c.args.text.now c.in_ok-finished.finished.tree c.in_ok-finished.finished.notes.items c.in-Ok.source.now
    (inner_of c.of-tree.result).items (inner_of c.of-messages.result).items (inner_of c.show.new.out).items (inner_of c.show.new.err).items c.in-Done.status
    c.in-Ok.ensures.cases.1 c.in_ok-finished.ensures.0 c.in-Ok.ensures.cases.0
    (rw c.of-tree.ensures.inner c.new.ensures.items) (rw c.of-messages.ensures.inner c.new-2.ensures.items) shows.2.0 shows.1.0 shows.0)

pub returns : goal.returns
returns c = rw c.in-Some.is (memory_gone c.in-Some.settings c.args.source.now c.args.text.now c.in_ok-finished.finished.tree c.in_ok-finished.finished.notes.items c.in-Ok.ensures.cases.1 c.in_ok-finished.ensures.0)
