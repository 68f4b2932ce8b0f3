use Rattle.rst2pseudoxml_run.proofs.DocumentLemmas.{left_under}
use Rattle.rst2pseudoxml_run.proofs.document.document_of.Goals as goal

pub returns-in-Ok : goal.returns-in-Ok
returns-in-Ok c = (
  left_under c.args.settings.now c.args.bytes.items c.in_ok-parsed.held c.in_ok-parsed.parsed.tree c.in_ok-parsed.parsed.messages c.in-Ok.finished.tree c.in-Ok.finished.notes.items c.in_ok-parsed.ensures.0
      c.in_ok-parsed.ensures.1 c.in-Ok.ensures.finishes.0 c.in-Ok.ensures.finishes.1,
  c.in-Ok.ensures.highest,
  c.in-Ok.ensures.few,
)
