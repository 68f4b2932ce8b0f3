use Rattle.std.proofs.Common.{◌≡◌, ◌+◌, ◌++◌, ◌≤◌, length, map}
use denote.Shadow.{shadow}
use denote.Text.{Utf8}
use Rattle.std.specs.Str.{chars}
use Rattle.rst_markup_lines.specs.OptionMarker.{moved, options_from}
use Rattle.rst_markup_lines.specs.Options.{listed, options_in}
use Rattle.rst_markup_lines.proofs.options.listed_options.Given as goal

abbrev pub invariant-loop-option : goal.invariant-loop-option
invariant-loop-option l = record {
  text : shadow (Utf8 l.rest);
  value : l.options.items ++ listed (map (moved l.before) (options_from 0 (chars l.rest))) ≡ options_in (chars l.text);
  within : l.before + length (chars l.rest) ≤ length (chars l.text);
}

abbrev pub decreases-loop-option : goal.decreases-loop-option
decreases-loop-option l = length (chars l.rest)
