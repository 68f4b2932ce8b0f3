use Rattle.std.proofs.Common.{◌≡◌, ℕ, ◌+◌, ◌<◌, ◌≤◌, length, drop, true}
use denote.Shadow.{shadow}
use denote.Text.{Utf8}
use Rattle.std.specs.Str.{chars}
use Rattle.rst_text.specs.SimpleNames.{is_name_at}
use Rattle.rst_markup_lines.proofs.explicit_marks.simple_name.Given as goal

abbrev pub invariant-loop-c : goal.invariant-loop-c
invariant-loop-c l = record {
  text : shadow (Utf8 l.rest);
  place : drop l.n (chars l.text) ≡ chars l.rest;
  names : (k : ℕ) → k < l.n → is_name_at (chars l.text) k ≡ true;
  inside : l.n ≤ length (chars l.text);
  within : l.n + length l.rest ≤ length l.text;
}

abbrev pub decreases-loop-c : goal.decreases-loop-c
decreases-loop-c l = length l.rest
