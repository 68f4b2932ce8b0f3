use Rattle.std.proofs.Common.{ℕ, [], Ok}
use Rattle.rst_text.proofs.WriteLemmas.{sent_at_once, sent_nothing}
use Rattle.rst2pseudoxml_run.proofs.running.show.Goals as goal

pub returns-in-Err-clause-err : goal.returns-in-Err-clause-err
returns-in-Err-clause-err g c = ([], sent_nothing c.args.err.now)

pub returns-in-Err-clause-out : goal.returns-in-Err-clause-out
returns-in-Err-clause-out g c = ([], sent_nothing c.args.out.now)

pub returns-in-Err-made_as-clause-err : goal.returns-in-Err-made_as-clause-err
returns-in-Err-made_as-clause-err g c = ([], sent_nothing c.args.err.now)

pub returns-in-Err-made_as-clause-out : goal.returns-in-Err-made_as-clause-out
returns-in-Err-made_as-clause-out g c = ([], sent_nothing c.args.out.now)

pub returns-in-Err-write_all-clause-out : goal.returns-in-Err-write_all-clause-out
returns-in-Err-write_all-clause-out g c = ([], sent_nothing c.args.out.now)

pub returns-then-is_some-clause-out : goal.returns-then-is_some-clause-out
returns-then-is_some-clause-out g c = ([], sent_nothing c.args.out.now)

pub returns-in-Ok-write_document-clause-err : goal.returns-in-Ok-write_document-clause-err
returns-in-Ok-write_document-clause-err g c = (c.as_slice.result.now, sent_at_once {A = ℕ} (Ok 0) c.in_default.ensures.bytes c.in_default.ensures.call)

pub returns-clause-err : goal.returns-clause-err
returns-clause-err g c = (c.as_slice.result.now, sent_at_once {A = ℕ} (Ok 0) c.in_default.ensures.bytes c.in_default.ensures.call)
