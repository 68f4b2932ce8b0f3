-- What is kept of a cell's lines. No rule of markup.
use Rattle.std.specs.Prelude.{ℕ, List, [], ◌∷◌}
use Rattle.rst_text.specs.Source.{texts_with}
use Rattle.rst_markup_tables.specs.declared.results.CellTexts.{CellTexts}
use Rattle.rst_markup_tables.specs.declared.results.CellTexts.TheVariants.{One, More}

-- the texts of a cell, with their places
abbrev pub kept_texts : CellTexts → List (ℕ × List ℕ)
kept_texts (One text) = texts_with (text ∷ [])
kept_texts (More texts) = texts_with texts.items
