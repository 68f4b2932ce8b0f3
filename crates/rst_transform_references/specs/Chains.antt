-- The chains of indirect targets, each of which refers to the name of the next, and what they come to (Markup Specification, 'Hyperlink
-- Targets').
use Rattle.std.specs.Prelude.{ℕ, zero, suc, List, get_or, length, map, if◌then◌else◌, is_some, option_map, Option, Some, None}
use Rattle.std.specs.List.{range_with_len}
use Rattle.rst_tree.specs.declared.attrs.Attr.{Attr}
use Rattle.rst_tree.specs.declared.key.Key.TheVariants.{Refname}
use Rattle.rst_tree.specs.declared.node.Node.{Node}
use Rattle.rst_transform_names.specs.declared.names.NameEntry.{NameEntry}
use Rattle.rst_transform_references.specs.declared.chains.Answer.{Answer}
use Rattle.rst_transform_references.specs.declared.chains.Answer.TheVariants.{Leads, Missing, Circular}
use Rattle.rst_transform_references.specs.declared.chains.Step.{Step}
use Rattle.rst_transform_references.specs.declared.chains.Step.TheVariants.{To, Ends}
use Rattle.rst_transform_references.specs.Holders.{holder_place, is_nobody}
use Rattle.rst_transform_references.specs.Leads.{is_target_node, name_lead}
use Rattle.rst_transform_references.specs.Links.{node_at}
use Rattle.rst_transform_references.specs.Table.{Links}
use Rattle.rst_transform_work.specs.Lists.{at_place}
use Rattle.rst_transform_work.specs.Reading.{text_of_attribute}

-- ---- the step from each indirect target

-- the name that an indirect target refers to
abbrev pub indirect_name : Node → Option (List ℕ)
indirect_name node = if is_target_node node then text_of_attribute Refname node else None

-- on to the place of a name, if an indirect target is there, or else to where the name leads
abbrev pub step_on : Option ℕ → Links → Attr → Step
step_on None links lead = Ends (Leads lead)
step_on (Some place) links lead = if is_some (indirect_name (node_at place links)) then To place else Ends (Leads lead)

-- the step to a name, by the places of the elements and by what is known of it; nowhere, if no element has the name
abbrev pub step_to : List (Option ℕ) → Links → List ℕ → Option NameEntry → Step
step_to places links name None = Ends (Missing name)
step_to places links name (Some entry) =
    let holder : Option ℕ = holder_place places entry.holder in
    if is_nobody entry.holder then Ends (Missing name) else step_on holder links (name_lead holder entry links)

-- the first step from each indirect target
abbrev pub own_step : (List ℕ → Option NameEntry) → List (Option ℕ) → Links → Node → Option Step
own_step known places links node = option_map (λ name. step_to places links name (known name)) (indirect_name node)

-- ---- what a chain comes to, step by step

-- what a chain comes to that begins with a step, within a number of further ones: its end, or a circle if these are too few; nothing without a step
abbrev pub comes_to : List (Option Step) → ℕ → Option Step → Option Answer
comes_to steps count None = None
comes_to steps count (Some (Ends answer)) = Some answer
comes_to steps zero (Some (To place)) = Some Circular
comes_to steps (suc more) (Some (To place)) = comes_to steps more (at_place steps place)

-- what each comes to; a chain of more steps than there are places comes to one of them twice
abbrev pub answers_of : List (Option Step) → List (Option Answer)
answers_of steps = map (λ place. comes_to steps (length steps) (at_place steps place)) (range_with_len 0 (length steps))

-- ---- how that is found

abbrev pub next_of : Option Step → Option ℕ
next_of (Some (To next)) = Some next
next_of _ = None

-- the next place in a chain, from one that no chain came to before; given is where the first chain began that came to each
abbrev pub next_on : List (Option Step) → List (Option ℕ) → ℕ → Option ℕ
next_on steps starts place = if is_some (at_place starts place) then None else next_of (at_place steps place)

-- what a chain comes to that stops with a step to another place: what the chain comes to that began at a start, or a circle if it is the same one, of
-- which no answer is known
abbrev pub joined : Option ℕ → List (Option Answer) → Option Answer
joined None answers = Some Circular
joined (Some start) answers = get_or answers start (Some Circular)

abbrev pub stopped : Option Step → Option ℕ → List (Option Answer) → Option Answer
stopped None start answers = None
stopped (Some (Ends answer)) start answers = Some answer
stopped (Some (To next)) start answers = joined start answers
