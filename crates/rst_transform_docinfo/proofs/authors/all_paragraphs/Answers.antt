use Rattle.rst_transform_docinfo.proofs.Gathering.{item_refused, items_seen}
use Rattle.rst_transform_docinfo.proofs.authors.all_paragraphs.Goals as goal

pub returns-in_default : goal.returns-in_default
returns-in_default c =
    item_refused c.args.line c.args.items.now c.as_slice-item-items.result.now c.loop-item.nodes.items c.loop-item.item-index c.item-item.result c.as_slice-item-items.ensures c.loop-item-test.true c.item-item.is c.in_default.ensures
    c.loop-item.invariant

pub returns : goal.returns
returns c = items_seen c.args.line c.args.items.now c.as_slice-item-items.result.now c.loop-item.nodes.items c.loop-item.item-index c.as_slice-item-items.ensures c.loop-item-test.false c.loop-item.invariant
