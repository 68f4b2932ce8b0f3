-- The message on inline markup whose start-string has no end-string (Markup Specification, 'Inline Markup').
use Rattle.std.specs.Prelude.{ℕ, List, ◌++◌, codes}
use Rattle.rst_tree.specs.declared.phrase.Phrase.{Phrase}
use Rattle.rst_tree.specs.declared.phrase.Phrase.TheVariants.{UnendedEmphasis, UnendedStrong, UnendedLiteral, UnendedTarget, UnendedSubstitution, UnendedInterpreted}

-- what the start-string is of
abbrev pub unended_markup : Phrase → List ℕ
unended_markup UnendedEmphasis = codes "emphasis"
unended_markup UnendedStrong = codes "strong"
unended_markup UnendedLiteral = codes "literal"
unended_markup UnendedTarget = codes "target"
unended_markup UnendedSubstitution = codes "substitution_reference"
unended_markup UnendedInterpreted = codes "interpreted text or phrase reference"

-- the text
unfoldable pub phrase_text : Phrase → List ℕ
phrase_text phrase = codes "Inline " ++ unended_markup phrase ++ codes " start-string without end-string."
