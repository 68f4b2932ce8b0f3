-- How much nodes come to when they are expanded. No rule of markup: it is what lets an expansion be judged without being gone through.
use Rattle.std.specs.Prelude.{◌≡◌, ℕ, ◌-◌, ◌<◌, ◌≤◌, ◌==◌, ◌&&◌, ◌||◌, nat_le, Bool, true, false, List, if◌then◌else◌, is_some, length, option_and_then, slice_get, unwrap_or, Option, Some, None, Result, Ok, Err}
use Rattle.std.specs.List.{list_any}
use Rattle.std.specs.Option.{option_map_or}
use Rattle.rst_tree.specs.Forest.{Forest, bare}
use Rattle.rst_tree.specs.Nodes.{nodes_of}
use Rattle.rst_transform_work.specs.Lists.{at_place}
use Rattle.rst_transform_substitutions.specs.declared.definitions.Definitions.{Definitions}
use Rattle.rst_transform_substitutions.specs.declared.expansion.ExpansionFault.{ExpansionFault}
use Rattle.rst_transform_substitutions.specs.declared.expansion.ExpansionFault.TheVariants.{TooLarge}
use Rattle.rst_transform_substitutions.specs.declared.sizes.Measured.{Measured}
use Rattle.rst_transform_substitutions.specs.declared.sizes.Size.{Size}
use Rattle.rst_transform_substitutions.specs.Definitions.{found_by}
use Rattle.rst_transform_substitutions.specs.Expansion.{expanded_copies, given_within, most_visited, remaining_visits, Expansion}

-- what may still be visited after nodes of a size, by how many nested definitions may be gone into and how much may be visited
abbrev pub takes : Size → ℕ → ℕ → Result ℕ ExpansionFault
takes size more left = if nat_le size.nested more && nat_le size.visited left then Ok (left - size.visited) else Err TooLarge

-- what may still be visited after one thing, and then after another
abbrev pub and_then : Result ℕ ExpansionFault → (ℕ → Result ℕ ExpansionFault) → Result ℕ ExpansionFault
and_then (Ok left) rest = rest left
and_then (Err fault) rest = Err fault

-- nodes end with what may be visited after those of a size; or, if the reference to a name comes next, they fail if this does
abbrev pub Ends : Option (List ℕ) → (List ℕ → ℕ → Expansion) → Result ℕ ExpansionFault → Result ℕ ExpansionFault → Type 0
Ends None given sized all = all ≡ sized
Ends (Some name) given sized all = (fault : ExpansionFault) → and_then sized (λ left. remaining_visits (given name left)) ≡ Err fault → all ≡ Err fault

-- at least some number of definitions are nested in the one at a place, if it is known to be replaced
abbrev pub is_above : List (Option Measured) → ℕ → ℕ → Bool
is_above measured nested place = option_map_or (λ one. is_some one.stuck || nat_le nested one.size.nested) (at_place measured place) true

-- none of those that are known to be replaced is on a path, if fewer are nested in it
abbrev pub AreAbove : List (Option Measured) → ℕ → List ℕ → Type 0
AreAbove measured nested path = (place : ℕ) (one : Measured) → at_place measured place ≡ Some one → one.stuck ≡ None → one.size.nested < nested → list_any (λ entered. entered == place) path ≡ false

-- if an expansion comes to nodes, they are these
abbrev pub GivesCopy : Forest → Expansion → Type 0
GivesCopy nodes (Ok done) = done.0 ≡ nodes_of nodes
GivesCopy nodes (Err fault) = Unit {0}

-- given definitions, and what is measured of them
module _ (known : Definitions) (measured : List (Option Measured)) where
  -- nodes after others of a size are together with them of a size, up to the reference to a name if there is one
  abbrev pub IsSizeBy : Size → Forest → Size → Option (List ℕ) → Type 0
  IsSizeBy before nodes after stuck =
      (more left : ℕ) (path : List ℕ) → AreAbove measured after.nested path → left ≤ most_visited
      → Ends stuck (given_within (found_by known) more path) (takes after more left) (and_then (takes before more left) (λ left. remaining_visits (expanded_copies (given_within (found_by known) more path) nodes left)))

  -- what is measured of a definition with some nodes is right
  abbrev pub IsMeasuredBy : Forest → Measured → Type 0
  IsMeasuredBy content one =
      IsSizeBy (record { visited = 0; nested = 0 }) content one.size one.stuck
      × ((nodes : Forest) → one.copy ≡ Some nodes → (more left : ℕ) (path : List ℕ) → GivesCopy nodes (expanded_copies (given_within (found_by known) more path) content left))

  -- so is what is measured of each
  abbrev pub AreMeasured : Type 0
  AreMeasured = (place : ℕ) (one : Measured) → at_place measured place ≡ Some one → (content : Forest) × (slice_get known.contents.items place ≡ Some content) × IsMeasuredBy content one

-- the same by what these definitions know
abbrev pub AreSized : Definitions → Type 0
AreSized known = AreMeasured known known.measured.items

abbrev pub IsMeasured : Definitions → Forest → Measured → Type 0
IsMeasured known = IsMeasuredBy known known.measured.items

abbrev pub IsSize : Definitions → Size → Forest → Size → Option (List ℕ) → Type 0
IsSize known = IsSizeBy known known.measured.items

-- a reference to a name comes to a size
abbrev pub IsSizeOfReference : Definitions → List ℕ → Size → Type 0
IsSizeOfReference known name size =
    (more left : ℕ) (path : List ℕ) → AreAbove known.measured.items size.nested path → left ≤ most_visited → remaining_visits (given_within (found_by known) more path name left) ≡ takes size more left

-- what was measured of a definition fits into what may be visited, and tells what its nodes come to
pub record Fits (given : List ℕ → ℕ → Expansion) (wanted : Expansion) (left : ℕ) (one : Measured) : Type 0 where
  pub within : one.size.visited ≤ left
  pub ends : Ends one.stuck given (Ok (left - one.size.visited)) (remaining_visits wanted)
  pub copy : (nodes : Forest) → one.copy ≡ Some nodes → GivesCopy nodes wanted

-- the nodes of the definition that was gone into last
abbrev pub content_last : Definitions → List ℕ → Forest
content_last known path = unwrap_or (option_and_then (slice_get known.contents.items) (slice_get path (length path - 1))) bare
