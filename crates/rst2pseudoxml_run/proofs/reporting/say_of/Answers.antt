use Rattle.std.proofs.Common.{List, ℕ, subst}
use Rattle.rst_text.specs.Counted.{IsSent}
use Rattle.rst2pseudoxml_run.proofs.StreamLemmas.{line-joined}
use Rattle.rst2pseudoxml_run.proofs.reporting.say_of.Goals as goal

pub returns : goal.returns
returns g c =
    let P : List ℕ → Type 0 = λ line. IsSent g.E.WriteCall.call_takes g.E.Write.contents c.args.err.now c.write_pieces.new.err line in
    subst P (line-joined c.args.by.now c.args.before.now c.args.named.now c.args.after.now) c.write_pieces.ensures
