use Rattle.std.proofs.Common.{rules, ◌++◌, ◌∙◌, ap, map}
use Rattle.rst_json.specs.Json.{json_string}
use Rattle.rst_json.proofs.JsonLemmas.{enclosed, items_of_texts}
use Rattle.rst_json.proofs.element.put_texts.Goals as goal

pub returns : goal.returns
returns c =
    enclosed (map json_string c.args.texts.now) c.args.out.now.items c.loop-text.out.items _ _ _ _ c.enclose.result
    (c.loop-text.invariant ∙ ap (λ z. c.args.out.now.items ++ z) (items_of_texts c.args.texts.now c.loop-text.text-index c.loop-text-test.false)) (search rules) c.enclose.ensures
