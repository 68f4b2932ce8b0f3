use Rattle.std.proofs.Common.{◌∙◌, rules, ap}
use Rattle.std.specs.List.{flat_map}
use Rattle.std.specs.Str.{trim}
use Rattle.std.proofs.lemmas.Iterator.Consumers.{YieldsList-end}
use Rattle.std.proofs.lemmas.Iterator.Splits.{YieldsList-from_str_split}
use Rattle.rst_transform_docinfo.specs.Authors.{author_named}
use Rattle.rst_transform_docinfo.proofs.authors.parted.Goals as goal

pub returns : goal.returns
returns c =
    let end = YieldsList-end (YieldsList-from_str_split {s = c.into_iter-piece-iterator.result} c.args.separator c.args.text.now c.requires (search rules) (search rules) (search rules))
    c.loop-piece.yielded c.loop-piece.piece-iterator c.loop-piece.yielded_by c.next.result c.next.new.self c.in-None.is c.next.ensures.steps in
    c.loop-piece.invariant ∙ ap (flat_map (λ piece. author_named c.args.line (trim piece))) end.0
