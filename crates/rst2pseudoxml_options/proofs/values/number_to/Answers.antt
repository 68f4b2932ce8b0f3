use Rattle.std.proofs.Common.{sym, arith, rules}
use Rattle.rst2pseudoxml_options.proofs.ValuesLemmas.{number_to-first, number_to-read, number_to-great, number_to-unread, read-from_one}
use Rattle.rst2pseudoxml_options.proofs.values.number_to.Goals as goal

pub returns-then-not-matches-clause-value : goal.returns-then-not-matches-clause-value
returns-then-not-matches-clause-value c = sym (number_to-first _ _ (search rules))

pub returns-in-Ok-clause-value : goal.returns-in-Ok-clause-value
returns-in-Ok-clause-value c = sym (number_to-read _ _ c.in-Ok.number (search rules) c.in-Ok.ensures.value.0 (omega arith))

pub returns-in-Ok-clause-from : goal.returns-in-Ok-clause-from
returns-in-Ok-clause-from c = read-from_one c.args.text.now c.in-Ok.number (search rules) c.in-Ok.ensures.value.0

pub returns-in_default-parse-clause-value : goal.returns-in_default-parse-clause-value
returns-in_default-parse-clause-value c = sym (number_to-great _ _ c.in-Ok.number (search rules) c.in-Ok.ensures.value.0 (omega arith))

pub returns-in_default-parse-2-clause-value : goal.returns-in_default-parse-2-clause-value
returns-in_default-parse-2-clause-value c = sym (number_to-unread _ _ c.in_default-parse.field-0 (search rules) c.in_default-parse.ensures.value.0 (omega arith))
