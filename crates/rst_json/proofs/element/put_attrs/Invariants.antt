use Rattle.std.proofs.Common.{◌≡◌, ◌++◌, take}
use Rattle.std.specs.List.{flat_map}
use Rattle.rst_json.specs.Json.{after_comma, json_attr_of}
use Rattle.rst_json.proofs.element.put_attrs.Given as goal

abbrev pub invariant-loop-attr : goal.invariant-loop-attr
invariant-loop-attr l = l.out.items ≡ l.initial.out.items ++ flat_map (λ a. flat_map after_comma (json_attr_of l.all a)) (take l.attr-index l.attrs)
