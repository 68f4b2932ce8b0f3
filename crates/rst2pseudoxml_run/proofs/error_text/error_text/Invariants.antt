use Rattle.std.proofs.Common.{◌≡◌, false, take, filter}
use Rattle.std.specs.List.{flat_map}
use Rattle.rst_text.specs.Counted.{inner_of, has_failed}
use Rattle.rst_tree.specs.Message.{message_of}
use Rattle.rst2pseudoxml_run.specs.RunResult as spec
use Rattle.rst2pseudoxml_run.proofs.error_text.error_text.Given as goal

-- the messages so far were written
abbrev pub invariant-loop-note : goal.invariant-loop-note
invariant-loop-note l = ((inner_of l.text).items ≡ flat_map (message_of l.source) (filter (spec.is_reported l.settings) (take l.note-index l.notes))) × (has_failed l.text ≡ false)
