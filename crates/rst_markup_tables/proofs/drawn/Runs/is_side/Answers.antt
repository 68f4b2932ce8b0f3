use Rattle.std.proofs.Common.{arith, map}
use Rattle.std.specs.Prelude.{vec_items}
use Rattle.std.proofs.lemmas.Bool.Decides.{nat_tests}
use Rattle.rst_markup_tables.proofs.Frames.{side_is}
use Rattle.rst_markup_tables.proofs.drawn.Runs.is_side.Goals as goal

pub returns-then-mark-eq43-2 : goal.returns-then-mark-eq43-2
returns-then-mark-eq43-2 c =
    let G = c.args.self.now.rows.now in
    let run = side_is G (map vec_items c.args.self.now.begins.items) c.args.row c.args.left c.args.right c.args.self.now.are_begins in
    grind (arith, nat_tests, run)
