use Rattle.std.proofs.Common.{rules, ◌++◌, ◌∙◌, ap}
use Rattle.std.specs.List.{flat_map}
use Rattle.rst_json.specs.Json.{json_attr_of}
use Rattle.rst_json.proofs.JsonLemmas.{enclosed, items_of_attrs}
use Rattle.rst_json.proofs.element.put_attrs.Goals as goal

pub returns : goal.returns
returns c =
    enclosed (flat_map (json_attr_of c.args.all) c.args.attrs.now) c.args.out.now.items c.loop-attr.out.items _ _ _ _ c.enclose.result
    (c.loop-attr.invariant ∙ ap (λ z. c.args.out.now.items ++ z) (items_of_attrs c.args.all c.args.attrs.now c.loop-attr.attr-index c.loop-attr-test.false)) (search rules) c.enclose.ensures
