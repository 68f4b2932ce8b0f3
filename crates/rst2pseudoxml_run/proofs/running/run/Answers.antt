use Rattle.std.proofs.Common.{[]}
use Rattle.rst_settings.specs.Profile.{profile_of}
use Rattle.rst_text.specs.Counted.{between, inner_of}
use Rattle.rst2pseudoxml_run.proofs.RunResultLemmas.{ends_read, ends_refused, ends_unread}
use Rattle.std.proofs.KnownBytes.{Keeps-refl}
use Rattle.rst_text.proofs.WriteLemmas.{sent_nothing}
use Rattle.rst2pseudoxml_run.proofs.running.run.Goals as goal

pub returns-in-Ok-document-clause-headline : goal.returns-in-Ok-document-clause-headline
returns-in-Ok-document-clause-headline g c =
    ends_read c.args.format (profile_of c.args.settings.now) c.args.settings.now c.args.source.now
    (between g.R.Read.remaining c.args.input.now c.read_input.new.input) (between g.O.Write.contents c.args.out.now c.show-end.new.out) (between g.E.Write.contents c.args.err.now c.show-end.new.err)
    c.in-Ok-document.finished c.in-Ok.bytes c.show-end.result
    c.in-Ok.ensures.bytes c.in-Ok-document.ensures c.show-end.ensures.shows

pub returns-in-Err-document-clause-headline : goal.returns-in-Err-document-clause-headline
returns-in-Err-document-clause-headline g c =
    ends_refused c.args.format (profile_of c.args.settings.now) c.args.settings.now c.args.source.now
    (between g.R.Read.remaining c.args.input.now c.read_input.new.input) (between g.O.Write.contents c.args.out.now c.args.out.now) (between g.E.Write.contents c.args.err.now c.args.err.now)
    c.in-Ok.bytes c.in-Err-document.end
    c.in-Ok.ensures.bytes c.in-Err-document.ensures (Keeps-refl (g.O.Write.contents (inner_of c.args.out.now))) (Keeps-refl (g.E.Write.contents (inner_of c.args.err.now)))

pub returns-in-Err-clause-headline : goal.returns-in-Err-clause-headline
returns-in-Err-clause-headline g c =
    ends_unread c.args.format (profile_of c.args.settings.now) c.args.settings.now c.args.source.now
    (between g.R.Read.remaining c.args.input.now c.read_input.new.input) (between g.O.Write.contents c.args.out.now c.args.out.now) (between g.E.Write.contents c.args.err.now c.args.err.now)
    c.in-Err.end c.in-Err.ensures.bytes (Keeps-refl (g.O.Write.contents (inner_of c.args.out.now))) (Keeps-refl (g.E.Write.contents (inner_of c.args.err.now)))

pub returns-in-Err-clause-err : goal.returns-in-Err-clause-err
returns-in-Err-clause-err g c = ([], sent_nothing c.args.err.now)

pub returns-in-Err-document-clause-err : goal.returns-in-Err-document-clause-err
returns-in-Err-document-clause-err g c = ([], sent_nothing c.args.err.now)

pub returns-in-Err-clause-out : goal.returns-in-Err-clause-out
returns-in-Err-clause-out g c = ([], sent_nothing c.args.out.now)

pub returns-in-Err-document-clause-out : goal.returns-in-Err-document-clause-out
returns-in-Err-document-clause-out g c = ([], sent_nothing c.args.out.now)
