-- Anonymous references and the targets that they refer to (Markup Specification, 'Anonymous Hyperlinks').
use Rattle.std.specs.Prelude.{ℕ, List, [], ◌∷◌, ◌++◌, codes, decimal, length, nat_eq, if◌then◌else◌, is_some, Option, None}
use Rattle.std.specs.Option.{option_or}
use Rattle.rst_tree.specs.declared.attrs.Attr.{Attr}
use Rattle.rst_tree.specs.declared.key.Key.TheVariants.{Refname}
use Rattle.rst_tree.specs.Paths.{node_value}
use Rattle.rst_transform_work.specs.Known.{Known}
use Rattle.rst_transform_work.specs.Reading.{line_of}
use Rattle.rst_transform_references.specs.declared.links.Change.TheVariants.{Stays}
use Rattle.rst_transform_references.specs.declared.orders.Order.TheVariants.{Anonymous}
use Rattle.rst_transform_references.specs.Failing.{fail_for}
use Rattle.rst_transform_references.specs.Leads.{lead_at, lead_to_id}
use Rattle.rst_transform_references.specs.Links.{all, node_at, puts}
use Rattle.rst_transform_references.specs.Orders.{pairs_by, references_by, targets_by}
use Rattle.rst_transform_references.specs.Table.{Links}

-- where a reference to a target leads: where the target does, or else to its id, unless it is an indirect one
abbrev pub lead_to : ℕ → Links → Option Attr
lead_to target links = option_or (lead_at target links) (if is_some (node_value Refname (node_at target links)) then None else lead_to_id (node_at target links))

-- a reference leads to a target
abbrev pub leads_to_target : ℕ × ℕ → Links → Links
leads_to_target pair links = puts pair.0 (Stays (lead_to pair.1 links) None) links

-- the line of the first reference, or else target
abbrev pub first_line : List ℕ → List ℕ → Links → ℕ
first_line (place ∷ more) targets links = line_of (node_at place links)
first_line [] (place ∷ more) links = line_of (node_at place links)
first_line [] [] links = 0

-- the text of the message where there aren't as many of the ones as of the others
abbrev pub mismatch : ℕ → ℕ → List ℕ
mismatch references targets = codes "Anonymous hyperlink mismatch: " ++ (decimal references ++ (codes " references but " ++ (decimal targets ++ codes " targets.")))

-- the n-th anonymous reference leads to the n-th anonymous target; where there aren't as many of the ones as of the others, all references fail
unfoldable pub anonymous : Links → Known → Links × Known
anonymous links known =
    let references : List ℕ = references_by Anonymous links in
    let targets : List ℕ = targets_by Anonymous links in
    if nat_eq (length references) (length targets) then (all leads_to_target (pairs_by Anonymous links) links, known)
    else fail_for references (first_line references targets links) (mismatch (length references) (length targets)) links known
