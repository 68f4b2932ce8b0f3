-- What begins at a line (Markup Specification, 'Body Elements').
use Rattle.std.specs.Prelude.{◌≡◌, ℕ, List, Some}
use Rattle.rst_settings.specs.declared.Parts.{Parts}
use Rattle.rst_text.specs.Block.{Block, first_parts, first_text}
use Rattle.rst_markup_lines.specs.Adornment.{adornment_of}
use Rattle.rst_markup_lines.specs.Field.{field_of}
use Rattle.rst_markup_lines.specs.TextStart.{first}
use Rattle.rst_markup_lines.specs.Marker.{bullet, line_bar}
use Rattle.rst_markup_blocks.specs.Conditions.{next_text, after_text, item_enumerator, item_option}
use Rattle.rst_markup_blocks.specs.Kinds.{kind_at}
use Rattle.rst_markup_blocks.specs.declared.kind.Kind.{Kind}
use Rattle.rst_markup_blocks.specs.declared.kind.Kind.TheVariants as kinds
use Rattle.rst_markup_blocks.specs.declared.begun.Begun.{Begun}
use Rattle.rst_markup_blocks.specs.declared.begun.Begun.TheVariants.{Blank, Quote, Bullet, Enumerator, Field, OptionItem, Doctest, Line, Grid, Simple, Explicit, Anonymous, Adornment, Text}

-- the kind of a line at which something begins
abbrev pub kind_in : Begun → Kind
kind_in Blank = kinds.Blank
kind_in Quote = kinds.Quote
kind_in (Bullet mark marker) = kinds.Bullet
kind_in (Enumerator e) = kinds.Enumerator
kind_in (Field mark) = kinds.Field
kind_in (OptionItem marker) = kinds.OptionItem
kind_in Doctest = kinds.Doctest
kind_in (Line marker) = kinds.Line
kind_in Grid = kinds.Grid
kind_in Simple = kinds.Simple
kind_in Explicit = kinds.Explicit
kind_in Anonymous = kinds.Anonymous
kind_in (Adornment mark) = kinds.Adornment
kind_in Text = kinds.Text

-- the mark in the text of a line with these parts, before the next two, is that by which the line is of its kind
abbrev pub IsMarked : Parts → List ℕ → List ℕ → List ℕ → Begun → Type 0
IsMarked parts t next after (Bullet mark marker) = (first t ≡ Some mark) × (bullet t ≡ Some marker)
IsMarked parts t next after (Enumerator e) = item_enumerator t next ≡ Some e
IsMarked parts t next after (Field mark) = field_of parts t ≡ Some mark
IsMarked parts t next after (OptionItem marker) = item_option t next after ≡ Some marker
IsMarked parts t next after (Line marker) = line_bar t ≡ Some marker
IsMarked parts t next after (Adornment mark) = adornment_of t ≡ Some mark
IsMarked parts t next after begun = Unit {0}

-- what begins at the first line of a block
pub record IsBegun (X : Block) (begun : Begun) : Type 0 where
  pub kind : kind_in begun ≡ kind_at X
  pub mark : IsMarked (first_parts X) (first_text X) (next_text X) (after_text X) begun
