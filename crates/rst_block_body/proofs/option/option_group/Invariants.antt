use Rattle.std.proofs.Common.{◌≡◌, ◌++◌, drop, map}
use denote.Text.{Utf8}
use denote.Shadow.{shadow}
use Rattle.std.specs.Str.{chars}
use Rattle.std.specs.Vec.Iter.{into_iter_items}
use Rattle.rst_markup_lines.specs.Options.{options_in}
use Rattle.rst_block_state.specs.Lists.{option_element}
use Rattle.rst_block_body.proofs.option.option_group.Given as goal

abbrev pub invariant-loop-listed : goal.invariant-loop-listed
invariant-loop-listed l =
    shadow (Utf8 l.rest) × (chars l.rest ≡ drop l.passed (chars l.text))
    × (l.options.items ++ map (option_element (chars l.text) l.line) (into_iter_items l.listed-iterator) ≡ map (option_element (chars l.text) l.line) (options_in (chars l.text)))
