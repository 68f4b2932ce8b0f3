use Rattle.std.proofs.Common.{◌≡◌, length, take, arith, length-take-le}
use Rattle.std.proofs.lemmas.Simd.{take_more_put_chunk, length-put_chunk}
use Rattle.rst_tree.proofs.placing.place_first.Goals as goal

pub returns-clause-placed : goal.returns-clause-placed
returns-clause-placed g c =
    let front = take g.row.N c.args.text.now in
    let long : length front ≡ g.row.N = length-take-le g.row.N c.args.text.now c.requires.0 in
    take_more_put_chunk c.args.at c.args.all.now front _ (omega arith) c.requires.1

pub returns-clause-len : goal.returns-clause-len
returns-clause-len g c = length-put_chunk c.args.at c.args.all.now (take g.row.N c.args.text.now)
