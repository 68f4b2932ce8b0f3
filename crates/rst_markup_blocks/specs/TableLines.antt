-- The lines that tables are recognized by (Markup Specification, 'Grid Tables', 'Simple Tables').
use Rattle.std.specs.Prelude.{ℕ, Bool, ◌&&◌, ◌||◌, List, drop}
use Rattle.rst_text.specs.Block.{is_blank}
use Rattle.rst_markup_lines.specs.TextStart.{begins_with}
use Rattle.rst_markup_lines.specs.Class.{run}
use Rattle.rst_markup_lines.specs.declared.class.Class.TheVariants.{Either}

-- it begins with `+` or `|`, as each line of a grid table does
unfoldable pub is_drawn : List ℕ → Bool
is_drawn t = begins_with 43 t || begins_with 124 t

-- how many `=` and spaces are at the front; for a border of a simple table these are all its characters
unfoldable pub border_len : List ℕ → ℕ
border_len t = run (Either 61 32) t

-- A border of a simple table below its top one: `=` and spaces, `=` first. It may have one run of `=`, where the top
-- one has two or more.
unfoldable pub is_lower_border : List ℕ → Bool
is_lower_border t = begins_with 61 t && is_blank (drop (border_len t) t)
