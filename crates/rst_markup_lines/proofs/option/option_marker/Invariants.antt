use Rattle.std.proofs.Common.{◌≡◌, ◌+◌, ◌≤◌, length, map}
use denote.Shadow.{shadow}
use denote.Text.{Utf8}
use Rattle.std.specs.Str.{chars}
use Rattle.rst_markup_lines.specs.OptionMarker.{moved, options_from, marker_of_options, option_marker}
use Rattle.rst_markup_lines.proofs.option.option_marker.Given as goal

abbrev pub invariant-loop-marker : goal.invariant-loop-marker
invariant-loop-marker l = record {
  text : shadow (Utf8 l.rest);
  value : marker_of_options (map (moved l.before) (options_from 0 (chars l.rest))) ≡ option_marker (chars l.text);
  within : l.before + length (chars l.rest) ≤ length (chars l.text);
}

abbrev pub decreases-loop-marker : goal.decreases-loop-marker
decreases-loop-marker l = length (chars l.rest)
