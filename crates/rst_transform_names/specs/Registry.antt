-- What happens to a new element's name and to the element that had it (Document Tree, attributes `ids`, `names` and `dupnames`;
-- reStructuredText Markup Specification, 'Implicit Hyperlink Targets').
use Rattle.std.specs.Prelude.{ℕ, Bool, true, false, if◌then◌else◌, List, [], ◌∷◌, Option, Some, None}
use Rattle.std.specs.Str.{bytes_eq}
use Rattle.rst_tree.specs.declared.key.Key.TheVariants.{Refuri}
use Rattle.rst_tree.specs.declared.tag.Tag.{Tag}
use Rattle.rst_tree.specs.declared.tag.Tag.TheVariants.{Section}
use Rattle.rst_tree.specs.Attributes.{as_text, value_of}
use Rattle.rst_tree.specs.Paths.{map_at}
use Rattle.rst_tree.specs.Walk.{Item}
use Rattle.rst_tree_index.specs.Kinds.{is_target}
use Rattle.rst_transform_names.specs.declared.names.NameEntry.{NameEntry}
use Rattle.rst_transform_names.specs.declared.names.Holder.{Holder}
use Rattle.rst_transform_names.specs.declared.names.Holder.TheVariants.{Nobody as Lost, Element, Unregistered}
use Rattle.rst_transform_names.specs.declared.names.Strength.{Strength}
use Rattle.rst_transform_names.specs.declared.names.Strength.TheVariants.{Implicit, Explicit}
use Rattle.rst_transform_names.specs.declared.registry.Standing.{Standing}
use Rattle.rst_transform_names.specs.declared.rulings.Now.{Now}
use Rattle.rst_transform_names.specs.declared.rulings.Now.TheVariants.{Old, New, Nobody}
use Rattle.rst_transform_names.specs.declared.rulings.Ruling.{Ruling}
use Rattle.rst_transform_names.specs.Names.{is_table_of_contents, with_holder}
use Rattle.rst_transform_names.specs.Rulings.{ruling_for}

-- how an element gives its name: sections and tables of contents implicitly
abbrev pub strength_by : Tag → Bool → Strength
strength_by Section table = Implicit
strength_by _ table = if table then Implicit else Explicit

abbrev pub strength_of : Item → Strength
strength_of x = strength_by x.tag (is_table_of_contents x)

-- both have a text, and it is the same
abbrev pub is_same_text : Option (List ℕ) → Option (List ℕ) → Bool
is_same_text None b = false
is_same_text (Some a) None = false
is_same_text (Some a) (Some b) = bytes_eq a b

-- where a target leads that has a URI
abbrev pub target_uri : Item → Option (List ℕ)
target_uri x = if is_target x.tag then as_text (value_of Refuri x.attrs) else None

-- the rule for the name of a new element, by what is known of the name; two targets may have one URI
abbrev pub rule_by : Option NameEntry → Item → Ruling
rule_by None new = ruling_for None (strength_of new) false
rule_by (Some entry) new = ruling_for (Some (entry.strength, entry.holder)) (strength_of new) (is_same_text entry.uri (target_uri new))

-- what is known of the name from now on; the element has a number and an id
abbrev pub known_by : Now → ℕ → Item → List ℕ → Option NameEntry → Option NameEntry
known_by Old number new id entry = entry
known_by Nobody number new id entry = with_holder Lost entry
known_by New number new id entry = Some (record { holder = Element number; strength = strength_of new; id = id; uri = target_uri new })

-- what an element got that loses its name
abbrev pub without_name : Standing → Standing
without_name s = record s { lost = true }

-- the elements' standings, where the holder of a name has it as a duplicate one only
abbrev pub losing : Holder → List Standing → List Standing
losing (Element n) standings = map_at without_name n standings
losing Lost standings = standings
losing Unregistered standings = standings

-- the rule for a new element by the name it was written with; the empty name is none, and nothing happens to it
abbrev pub rule_named : List ℕ → Option NameEntry → Item → Ruling
rule_named [] entry new = record { now = Old; loser = Lost; new_loses = false; message = None }
rule_named (c ∷ cs) entry new = rule_by entry new

abbrev pub standing : ℕ → Option (List ℕ) → Bool → Bool → Standing
standing number id unnamed lost = record { serial = number; id = id; unnamed = unnamed; lost = lost }

-- the substitution definition that had a name
abbrev pub definer : Option ℕ → Holder
definer None = Lost
definer (Some number) = Element number
