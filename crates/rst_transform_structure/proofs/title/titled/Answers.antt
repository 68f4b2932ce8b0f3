use Rattle.std.proofs.Common.{None}
use Rattle.rst_transform_structure.specs.Passing.{paired_with_number, Passes}
use Rattle.rst_transform_structure.specs.Title.{lone_section, title_names}
use Rattle.rst_transform_structure.proofs.Titles.{anyway, title_moves}
use Rattle.rst_transform_structure.proofs.title.titled.Goals as goal

pub returns-in_ok-body-in-Ok-clause-names : goal.returns-in_ok-body-in-Ok-clause-names
returns-in_ok-body-in-Ok-clause-names c =
    anyway (Passes (paired_with_number None (title_names (lone_section c.args.nodes))) c.args.names.now c.subtitled.new.names) c.with_first.result
    (title_moves c.args.nodes c.in-Ok.section c.args.names.now c.take_names.new.names c.subtitled.new.names (rw c.in-Ok.is at c.in_ok-section.ensures) c.in_ok-take_names-in-Ok.ensures.names
    c.in_ok-body-in-Ok.ensures.names)
