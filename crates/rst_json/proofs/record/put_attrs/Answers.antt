use Rattle.std.proofs.Common.{arith}
use Rattle.rst_json.specs.Records.{attr_record_of}
use Rattle.rst_json.proofs.JsonLemmas.{next_item}
use Rattle.rst_json.proofs.record.put_attrs.Goals as goal

pub loop-attr-preserved : goal.loop-attr-preserved
loop-attr-preserved c =
    next_item (attr_record_of c.args.all) c.args.attrs.now c.loop-attr.attr-index c.attr-item.result c.put_word.new.out.items c.loop-attr.out.items c.put_attr.new.out.items
    c.attr-item.is (omega arith) c.loop-attr.invariant c.in_ok-put_attr.ensures
