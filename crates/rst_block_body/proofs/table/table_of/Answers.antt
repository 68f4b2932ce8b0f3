use Rattle.std.proofs.Common.{rules, arith, ◌≡◌, lt-ltb, le-ltb}
use Rattle.rst_block_state.specs.Tables.{head_nodes}
use Rattle.rst_block_body.proofs.table.table_of.Goals as goal
use Rattle.rst_block_body.proofs.table.table_of.Goals.{then-head-gt0+in_ok-into_element+in_ok-push, else-head-gt0}

pub returns : goal.returns
returns c =
    let parts : c.if-head-gt0.parts ≡ head_nodes c.args.head c.args.rows = elim c.if-head-gt0.branch [
      | then-head-gt0+in_ok-into_element+in_ok-push w ↦ rw (w.parts-is, lt-ltb 0 c.args.head (omega (arith, w.if-head-gt0.true))) (search rules)
      | else-head-gt0 w ↦ rw (w.parts-is, le-ltb 0 c.args.head (omega (arith, w.if-head-gt0.false))) c.none-parts.ensures
    ] in
    search (rules, parts)
