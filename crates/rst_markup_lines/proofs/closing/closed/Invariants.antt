use Rattle.std.proofs.Common.{◌≡◌, ◌+◌, ◌≤◌, length, drop}
use denote.Shadow.{shadow}
use denote.Text.{Utf8}
use Rattle.std.specs.Str.{chars}
use Rattle.rst_text.specs.Places.{NoneFrom}
use Rattle.rst_text.specs.Escapes.{is_escaped}
use Rattle.rst_markup_lines.specs.Closing.{is_after_dark, closes}
use Rattle.rst_markup_lines.proofs.closing.closed.Given as goal

abbrev pub invariant-loop-letter : goal.invariant-loop-letter
invariant-loop-letter l = record {
  text : shadow (Utf8 l.rest);
  place : drop l.n (chars l.text) ≡ chars l.rest;
  escaped : l.escaped ≡ is_escaped (chars l.text) 0 l.n;
  dark : l.dark ≡ is_after_dark (chars l.text) l.n;
  none : NoneFrom (closes l.closing (chars l.text)) 0 l.n;
  within : l.n + length l.rest ≤ length l.text;
}

abbrev pub decreases-loop-letter : goal.decreases-loop-letter
decreases-loop-letter l = length l.rest
