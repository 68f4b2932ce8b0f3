use Rattle.std.proofs.Common.{◌≡◌, ◌++◌, take}
use Rattle.std.specs.List.{flat_map}
use Rattle.rst_json.specs.Records.{attr_record_of}
use Rattle.rst_json.proofs.record.put_attrs.Given as goal

abbrev pub invariant-loop-attr : goal.invariant-loop-attr
invariant-loop-attr l = l.out.items ≡ l.initial.out.items ++ flat_map (attr_record_of l.all) (take l.attr-index l.attrs)
