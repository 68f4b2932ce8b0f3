use Rattle.std.proofs.Common.{◌≡◌, length, not, if◌then◌else◌}
use denote.Shadow.{shadow}
use denote.Text.{Utf8}
use Rattle.std.specs.Str.{chars}
use Rattle.rst_markup_lines.specs.Closing.{ends_in_colons}
use Rattle.rst_markup_lines.proofs.ColonLemmas.{escapes_next}
use Rattle.rst_markup_lines.proofs.closing.ends_in_colons.Given as goal

abbrev pub invariant-loop-fewer : goal.invariant-loop-fewer
invariant-loop-fewer l = record {
  text : shadow (Utf8 l.rest);
  answer : (if l.escaped then escapes_next (chars l.rest) else not (escapes_next (chars l.rest))) ≡ ends_in_colons (chars l.text);
}

abbrev pub decreases-loop-fewer : goal.decreases-loop-fewer
decreases-loop-fewer l = length l.rest
