-- The texts of what can be wrong with a table (Document Tree, 'system_message').
use Rattle.std.specs.Prelude.{ℕ, List, ◌++◌, codes, decimal}
use Rattle.rst_markup_tables.specs.declared.results.TableDetail.{TableDetail}
use Rattle.rst_markup_tables.specs.declared.results.TableDetail.TheVariants.{BottomBorderMissing, RightEdgeBroken, TwoHeadRules, ParseIncomplete, BorderMismatch, BottomMissing, ColumnSpan, Margin}

-- what is wrong with a table, in words
abbrev pub detail_text : TableDetail → List ℕ
detail_text BottomBorderMissing = codes "Bottom border missing."
detail_text RightEdgeBroken = codes "Right edge broken."
detail_text (TwoHeadRules first second) = codes "Multiple head/body row separators (table lines " ++ (decimal first ++ (codes " and " ++ (decimal second ++ codes "); only one allowed.")))
detail_text ParseIncomplete = codes "Malformed table; parse incomplete."
detail_text BorderMismatch = codes "Bottom border or header rule does not match top border."
detail_text BottomMissing = codes "No bottom table border found."
detail_text (ColumnSpan line) = codes "Column span alignment problem in table line " ++ decimal line ++ codes "."
detail_text (Margin line) = codes "Text in column margin in table line " ++ decimal line ++ codes "."

-- the message's text, of two lines
abbrev pub malformed_text : TableDetail → List ℕ
malformed_text detail = codes "Malformed table.\n" ++ detail_text detail
