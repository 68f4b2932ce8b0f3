use Rattle.std.proofs.Common.{◌≡◌, ◌-◌, ◌<◌, ◌^◌}
use denote.Shadow.{shadow}
use denote.Text.{Utf8}
use Rattle.std.specs.Str.{chars}
use Rattle.rst_markup_lines.proofs.Steps.{decimal_from}
use Rattle.rst_markup_lines.proofs.decimal.number_of.Given as goal

abbrev pub invariant-loop-k : goal.invariant-loop-k
invariant-loop-k l = record {
  text : shadow (Utf8 l.rest);
  value : decimal_from l.value (l.n - l.k) (chars l.rest) ≡ decimal_from 0 l.n (chars l.text);
  below : l.value < 10 ^ l.k;
}
