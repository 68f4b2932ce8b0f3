use Rattle.std.proofs.Common.{rules, subst}
use Rattle.rst_tree_index.specs.Parsed.{IsParsed}
use Rattle.rst2pseudoxml_run.specs.Reading.{long_document}
use Rattle.rst2pseudoxml_run.proofs.FinishedTrees.{long_parsed}
use Rattle.rst2pseudoxml_run.proofs.document.long_line.Goals as goal

pub of-requires : goal.of-requires
of-requires c = subst IsParsed {x = long_document c.args.line} (search rules) (long_parsed c.args.line)
