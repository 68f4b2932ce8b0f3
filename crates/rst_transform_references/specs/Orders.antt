-- The orders by which references without names find what they refer to: the n-th reference of an order takes the n-th target or footnote of it
-- (Markup Specification, 'Anonymous Hyperlinks', 'Auto-Numbered Footnotes', 'Auto-Symbol Footnotes').
use Rattle.std.specs.Prelude.{ℕ, Bool, true, false, List, [], codes, if◌then◌else◌, is_some, unwrap_or, Option, Some, None}
use Rattle.std.specs.List.{zip}
use Rattle.std.specs.Str.{bytes_eq}
use Rattle.rst_tree.specs.declared.attrs.Value.{Value}
use Rattle.rst_tree.specs.declared.attrs.Value.TheVariants.{Text}
use Rattle.rst_tree.specs.declared.key.Key.TheVariants.{Anonymous as AnonymousKey, Auto, Mark, Refname}
use Rattle.rst_tree.specs.declared.node.Node.{Node}
use Rattle.rst_tree.specs.declared.node.Node.TheVariants.{Element}
use Rattle.rst_tree.specs.declared.tag.Tag.TheVariants.{Footnote, FootnoteReference, Reference, Target}
use Rattle.rst_tree.specs.Attributes.{value_of, as_text}
use Rattle.rst_transform_references.specs.declared.orders.Order.{Order}
use Rattle.rst_transform_references.specs.declared.orders.Order.TheVariants.{Anonymous, Numbers, Symbols}
use Rattle.rst_transform_references.specs.Links.{places_where}
use Rattle.rst_transform_references.specs.Table.{Links}

abbrev pub is_order : Order → Option Order → Bool
is_order Anonymous (Some Anonymous) = true
is_order Numbers (Some Numbers) = true
is_order Symbols (Some Symbols) = true
is_order _ _ = false

-- the label that a footnote was written with
abbrev pub written_label : Node → List ℕ
written_label (Element Footnote a c l) = unwrap_or (as_text (value_of Mark a)) []
written_label _ = []

-- a footnote that is to be numbered was written with `#` alone, a symbol footnote with `*`
abbrev pub order_of_label : List ℕ → Option Order
order_of_label mark = if bytes_eq mark (codes "#") then Some Numbers else (if bytes_eq mark (codes "*") then Some Symbols else None)

-- the order by which a target or a footnote is found
abbrev pub target_order : Node → Option Order
target_order (Element Target a c l) = if is_some (value_of AnonymousKey a) then Some Anonymous else None
target_order node = order_of_label (written_label node)

-- the order of a reference to a footnote: that of symbols if the text of its attribute is `*`
abbrev pub order_by_auto : Option Value → Option Order
order_by_auto None = None
order_by_auto (Some (Text mark)) = if bytes_eq mark (codes "*") then Some Symbols else Some Numbers
order_by_auto (Some _) = Some Numbers

-- the order by which a reference without a name finds what it refers to
abbrev pub reference_order : Node → Option Order
reference_order (Element Reference a c l) = if is_some (value_of AnonymousKey a) then Some Anonymous else None
reference_order (Element FootnoteReference a c l) = if is_some (value_of Refname a) then None else order_by_auto (value_of Auto a)
reference_order _ = None

-- the places of the references of an order, and of what they find
abbrev pub references_by : Order → Links → List ℕ
references_by order = places_where (λ node. is_order order (reference_order node))

abbrev pub targets_by : Order → Links → List ℕ
targets_by order = places_where (λ node. is_order order (target_order node))

-- the n-th with the n-th
abbrev pub pairs_by : Order → Links → List (ℕ × ℕ)
pairs_by order links = zip (references_by order links) (targets_by order links)
