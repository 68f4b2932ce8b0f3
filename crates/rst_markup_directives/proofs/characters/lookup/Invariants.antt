use Rattle.std.proofs.Common.{◌≡◌, cond, drop}
use Rattle.rst_markup_directives.specs.Characters.{is_exactly, is_word, lookup, table_of}
use Rattle.rst_markup_directives.proofs.characters.lookup.Given as goal

abbrev pub invariant-loop-word : goal.invariant-loop-word
invariant-loop-word g l = let passes = cond l.exactly (is_exactly l.text) (is_word l.text) in lookup passes (table_of (drop l.word-index l.table)) ≡ lookup passes (table_of l.table)
