use Rattle.std.proofs.Common.{rules, None}
use Rattle.rst_transform_work.proofs.Holding.{makes_names}
use Rattle.rst_transform_structure.specs.Passing.{passed, paired_with_number}
use Rattle.rst_transform_structure.specs.Title.{lone_section, title_names, titled}
use Rattle.rst_transform_structure.proofs.title.title.Goals as goal

pub returns : goal.returns
returns c =
    makes_names (titled c.args.document) (passed (paired_with_number None (title_names (lone_section c.args.document.children)))) c.args.context.now (record c.args.context.now { names = c.titled.new.names }) _ (search rules)
    (search rules) (search rules)
