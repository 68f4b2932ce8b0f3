use Rattle.std.proofs.Common.{◌≡◌, take}
use Rattle.std.specs.List.{list_any}
use Rattle.rst_json.specs.Json.{needs_json_escape}
use Rattle.rst_json.proofs.string.has_escaped.Given as goal

abbrev pub invariant-loop-byte : goal.invariant-loop-byte
invariant-loop-byte l = l.found ≡ list_any needs_json_escape (take l.byte-index l.text)
