use Rattle.std.proofs.Common.{◌∙◌, ap, sym, map}
use Rattle.unicode.specs.CaseFolding.{simple_fold}
use Rattle.rst_text.specs.Names.{name_of}
use Rattle.rst_text.proofs.names.both_borrowed.Goals as goal

pub returns-then-is_settled-clause-name : goal.returns-then-is_settled-clause-name
unfolding name_of
returns-then-is_settled-clause-name c = sym (ap (map simple_fold) (c.is_settled.ensures.white c.if-is_settled.true) ∙ c.is_settled.ensures.case c.if-is_settled.true)
