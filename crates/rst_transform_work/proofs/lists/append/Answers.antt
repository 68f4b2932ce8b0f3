use Rattle.std.proofs.Common.{◌∙◌, arith, sym}
use Rattle.rst_transform_work.proofs.Listing.{becomes_same, listed_by}
use Rattle.rst_transform_work.proofs.lists.append.Goals as goal

pub returns : goal.returns
returns c =
    becomes_same _ _ _ _ c.set.result c.set.ensures
    (listed_by c.args.key c.args.more.now _ _ c.args.attrs.now _ c.loop-text.text-index (sym c.is_empty.ensures ∙ c.if-is_empty.false) c.loop-text.invariant (omega (arith, c.loop-text-test.false))
    c.take_list-texts.ensures.texts c.take_list-texts.ensures.rest)
