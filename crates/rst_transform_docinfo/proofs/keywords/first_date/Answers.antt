use Rattle.std.proofs.Common.{arith, sym}
use Rattle.rst_transform_docinfo.proofs.KeywordLemmas.{few_pieces, first_is_date, first_is_none}
use Rattle.rst_transform_docinfo.proofs.keywords.first_date.Goals as goal

pub returns-then-is_date-clause-value : goal.returns-then-is_date-clause-value
returns-then-is_date-clause-value c = first_is_date c.args.pieces.now _ (omega arith) (sym c.if-is_date.ensures.value)

pub returns-else-is_date-clause-value : goal.returns-else-is_date-clause-value
returns-else-is_date-clause-value c = first_is_none c.args.pieces.now _ (omega arith) (sym c.if-is_date.ensures.value)

pub returns-in_default-clause-value : goal.returns-in_default-clause-value
returns-in_default-clause-value c = few_pieces c.args.pieces.now (omega arith)
