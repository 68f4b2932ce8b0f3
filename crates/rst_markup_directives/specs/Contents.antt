-- The options of tables of contents (Directives, 'Table of Contents').
use Rattle.std.specs.Prelude.{ℕ, List, [], ◌∷◌, drop, codes, Option, None, if◌then◌else◌}
use Rattle.rst_text.specs.Block.{is_blank}
use Rattle.rst_markup_directives.specs.Characters.{Text, digit_count, is_word, lookup}
use Rattle.rst_markup_directives.specs.Measure.{scale_of}
use Rattle.rst_markup_directives.specs.declared.contents.Backlinks.{Backlinks}
use Rattle.rst_markup_directives.specs.declared.contents.Backlinks.TheVariants.{Top, Entry, Nowhere}

-- where titles lead back to, as it is written
abbrev pub backlinks_name : Backlinks → List ℕ
backlinks_name Top = codes "top"
backlinks_name Entry = codes "entry"
backlinks_name Nowhere = codes "none"

-- where titles lead back to, by the words for it
abbrev pub backlinks : List (Text × Backlinks)
backlinks = (codes "top", Top) ∷ (codes "entry", Entry) ∷ (codes "none", Nowhere) ∷ []

-- where titles lead back to by a word, in any case
unfoldable pub backlinks_of : Text → Option Backlinks
backlinks_of t = lookup (is_word t) backlinks

-- how many levels of sections are shown: a scale of digits alone
unfoldable pub depth_of : Text → Option ℕ
depth_of t = if is_blank (drop (digit_count t) t) then scale_of t else None
