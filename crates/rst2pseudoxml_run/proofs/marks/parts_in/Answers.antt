use Rattle.std.proofs.Common.{rules, tests}
use Rattle.std.proofs.lemmas.Str.{encodes-chars}
use Rattle.rst2pseudoxml_run.proofs.marks.parts_in.Goals as goal

pub returns : goal.returns
returns c = rw (encodes-chars c.args.text.now c.utf8.text) (search (rules, tests))
