use Rattle.std.proofs.Common.{subst}
use Rattle.std.specs.Prelude.{◌==◌, drop}
use Rattle.rst_text.specs.Block.{Block}
use Rattle.rst_text.specs.ViewBlock.{block_of}
use Rattle.rst_markup_blocks.specs.Begun.{IsBegun}
use Rattle.rst_block_body.proofs.StepsPaid.{grid_found, simple_found}
use Rattle.rst_block_body.proofs.TableSteps.{grid_there}
use Rattle.rst_block.proofs.step.marked_step.Goals as goal

pub table-requires-clause-table : goal.table-requires-clause-table
table-requires-clause-table c =
    let B : Block = block_of c.args.view.now in
    let l = c.args.level.now in
    grid_there B l.at c.in_ok-found-in-Grid.found (subst (IsBegun (drop l.at B)) c.in-Grid.is c.requires.here.begun) c.in_ok-found-in-Grid.ensures.table

pub returns-in_ok-found-in-Grid : goal.returns-in_ok-found-in-Grid
returns-in_ok-found-in-Grid c =
    let B : Block = block_of c.args.view.now in
    let l = c.args.level.now in
    let begun = subst (IsBegun (drop l.at B)) c.in-Grid.is c.requires.here.begun in
    let looks = grid_found (l.depth == 0) (drop l.at B) _ _ begun c.grid.ensures.looked.1 c.in_ok-found-in-Grid.ensures.each in
    record { step = c.table.ensures.step; read = c.table.ensures.read; paid = c.table.ensures.paid _ looks.0 looks.1 }

pub returns-in_ok-found-in-Simple : goal.returns-in_ok-found-in-Simple
returns-in_ok-found-in-Simple c =
    let B : Block = block_of c.args.view.now in
    let l = c.args.level.now in
    let begun = subst (IsBegun (drop l.at B)) c.in-Simple.is c.requires.here.begun in
    let looks = simple_found (l.depth == 0) (drop l.at B) _ _ begun c.simple.ensures.looked.1 c.simple.ensures.looked.0 in
    record { step = c.table-in-Simple.ensures.step; read = c.table-in-Simple.ensures.read; paid = c.table-in-Simple.ensures.paid _ looks.0 looks.1 }
