use Rattle.std.proofs.Common.{◌∙◌, ℕ, [], filter, map, refl, sym, Ok}
use Rattle.std.proofs.lemmas.List.{take_all}
use Rattle.std.proofs.lemmas.List.Folds.{flat_map-map}
use Rattle.rst_json.proofs.JsonLemmas.{enclosed}
use Rattle.rst_json.specs.Json.{after_comma, json_note}
use Rattle.rst2pseudoxml_run.specs.RunResult.{is_reported}
use Rattle.rst_c.proofs.document.notes_json.Goals as goal

pub returns : goal.returns
returns c =
    let notes = filter (is_reported c.args.settings.now) c.args.notes.now in
    enclosed {A = Unit {0}} {E = ℕ} (map json_note notes) [] c.loop-note.json.items c.enclose.new.out.items 0 91 93 (Ok tt)
    (c.loop-note.invariant ∙ rw (take_all c.loop-note.note-index c.args.notes.now c.loop-note-test.false) (sym (flat_map-map after_comma json_note notes)))
    refl c.in_ok-enclose.ensures
