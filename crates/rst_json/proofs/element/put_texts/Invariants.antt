use Rattle.std.proofs.Common.{◌≡◌, ◌++◌, take}
use Rattle.std.specs.List.{flat_map}
use Rattle.rst_json.specs.Json.{after_comma, json_string}
use Rattle.rst_json.proofs.element.put_texts.Given as goal

abbrev pub invariant-loop-text : goal.invariant-loop-text
invariant-loop-text l = l.out.items ≡ l.initial.out.items ++ flat_map (λ t. after_comma (json_string t)) (take l.text-index l.texts)
