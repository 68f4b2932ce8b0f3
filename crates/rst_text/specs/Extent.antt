-- Runs of lines that are blank or indented (Markup Specification, 'Indentation').
use Rattle.std.specs.Prelude.{ℕ, zero, suc, ◌+◌, not, min, List, [], ◌∷◌, take, drop, map, filter, nat_le, if◌then◌else◌, unwrap_or}
use Rattle.std.specs.List.{reduce}
use Rattle.rst_text.specs.Block.{Line, Block, indentation, is_blank, first_text}
use Rattle.rst_text.specs.declared.view.Extent.{Extent}

-- one line more, unless nothing but blank lines is there
abbrev pub past_blank : ℕ → ℕ
past_blank zero = zero
past_blank (suc n) = suc (suc n)

-- how many lines at the front are blank or indented by at least `least`, blank lines at their end left off
unfoldable pub extent : ℕ → Block → ℕ
extent least [] = 0
extent least (l ∷ ls) =
    if is_blank l.text then past_blank (extent least ls)
    else if nat_le least (indentation l.text) then suc (extent least ls)
    else 0

-- the indentations of the lines that aren't blank
abbrev pub indentations : Block → List ℕ
indentations ls = map (λ (l : Line). indentation l.text) (filter (λ (l : Line). not (is_blank l.text)) ls)

-- the least indentation of the lines that aren't blank, 0 where there is none
unfoldable pub least_indent : Block → ℕ
least_indent ls = unwrap_or (reduce min (indentations ls)) 0

-- The extent at the front of a block, which is what follows place `from` of another: the place after the last line
-- that isn't blank, the least indentation, and whether a blank line or the end of the block comes next.
abbrev pub extent_of : ℕ → ℕ → Block → Extent
extent_of from least X = record {
  end = from + extent least X;
  indent = least_indent (take (extent least X) X);
  blank_finish = is_blank (first_text (drop (extent least X) X));
}
