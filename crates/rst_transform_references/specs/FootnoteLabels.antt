-- The labels of footnotes (Markup Specification, 'Auto-Numbered Footnotes' and 'Auto-Symbol Footnotes').
use Rattle.std.specs.Prelude.{ℕ, ◌+◌, ◌/◌, ◌%◌, Bool, not, length, map, nat_eq, List, [], ◌∷◌, ◌++◌, codes, decimal, encode_utf8, filter, slice_index}
use Rattle.std.specs.List.{filter_map, list_any, range_with_len, repeat, starts_with, zip}
use Rattle.rst_tree.specs.declared.node.Node.{Node}
use Rattle.rst_transform_names.specs.Ids.{number_in}
use Rattle.rst_transform_references.specs.declared.orders.Order.TheVariants.{Symbols}
use Rattle.rst_transform_references.specs.Links.{places_where}
use Rattle.rst_transform_references.specs.Orders.{targets_by, written_label}
use Rattle.rst_transform_references.specs.Table.{Links}

-- a footnote was written with a number
abbrev pub is_written : ℕ → List Node → Bool
is_written number linked = list_any (nat_eq number) (filter_map (λ node. number_in (written_label node)) linked)

-- the numbers from 1, as many as there are elements, that no footnote was written with
abbrev pub free_numbers : List Node → List ℕ
free_numbers linked = filter (λ number. not (is_written number linked)) (range_with_len 1 (length linked))

-- the symbols: asterisk, dagger, double dagger, section mark, pilcrow, number sign, spade, heart, diamond and club
abbrev pub symbols : List ℕ
symbols = 42 ∷ 8224 ∷ 8225 ∷ 167 ∷ 182 ∷ 35 ∷ 9824 ∷ 9829 ∷ 9830 ∷ 9827 ∷ []

-- the label of the n-th symbol footnote, from 0: where the symbols are used up, they come doubled, then tripled and so on
abbrev pub symbol_label : ℕ → List ℕ
symbol_label n = repeat (n / 10 + 1) (encode_utf8 (slice_index symbols (n % 10)))

-- a footnote that is to be numbered was written with `#`, alone or before its name
abbrev pub is_to_number : Node → Bool
is_to_number node = starts_with nat_eq (written_label node) (codes "#")

-- the footnotes that are to be numbered; there is a free number for each
abbrev pub to_number : List Node → List Node
to_number = filter is_to_number

-- the places of the footnotes that are to be numbered, each with its number: the n-th one gets the n-th free number
abbrev pub numbered : Links → List (ℕ × ℕ)
numbered links = zip (places_where is_to_number links) (free_numbers links.linked)

-- the places of the footnotes that get labels, and these: after those the n-th symbol footnote, with the n-th symbol
abbrev pub labels : Links → List (ℕ × List ℕ)
labels links =
    map (λ pair. (pair.0, decimal pair.1)) (numbered links) ++ map (λ pair. (pair.0, symbol_label pair.1)) (zip (targets_by Symbols links) (range_with_len 0 (length links.linked)))
