use Rattle.std.proofs.Common.{◌≡◌, filter, take}
use Rattle.std.specs.List.{flat_map}
use Rattle.rst_json.specs.Json.{after_comma, json_note}
use Rattle.rst2pseudoxml_run.specs.RunResult.{is_reported}
use Rattle.rst_c.proofs.document.notes_json.Given as goal

abbrev pub invariant-loop-note : goal.invariant-loop-note
invariant-loop-note l = l.json.items ≡ flat_map (λ n. after_comma (json_note n)) (filter (is_reported l.settings) (take l.note-index l.notes))
