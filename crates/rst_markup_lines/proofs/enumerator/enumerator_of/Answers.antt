use Rattle.std.proofs.Common.{◌≡◌, true, drop, ◌∙◌, sym}
use Rattle.std.specs.Str.{chars}
use Rattle.rst_markup_lines.specs.TextStart.{first}
use Rattle.rst_markup_lines.specs.Enumerator.{begins_no_enumerator}
use Rattle.rst_markup_lines.proofs.EnumeratorLemmas.{word_none, empty_none}
use Rattle.rst_markup_lines.proofs.enumerator.enumerator_of.Goals as goal

pub returns-in_default : goal.returns-in_default
returns-in_default c =
    let none : begins_no_enumerator c.in-Some.c (first (drop 1 (chars c.args.text.now))) ≡ true = cc in word_none (chars c.args.text.now) c.in-Some.c c.in-Some.ensures none

pub returns-in_default-2 : goal.returns-in_default-2
returns-in_default-2 c = empty_none (chars c.args.text.now) (sym c.in_default.is ∙ c.first_char.ensures)
