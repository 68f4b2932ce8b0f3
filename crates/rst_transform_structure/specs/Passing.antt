-- Names that pass to other elements (Document Tree, `names`).
use Rattle.std.specs.Prelude.{ℕ, List, [], ◌∷◌, map, Option, Some, None}
use Rattle.rst_transform_names.specs.Names.{with_holder, with_entry, AreRegistered}
use Rattle.rst_transform_names.specs.declared.names.NameEntry.{NameEntry}
use Rattle.rst_transform_names.specs.declared.names.Names.{Names}
use Rattle.rst_transform_names.specs.declared.names.Holder.{Holder}
use Rattle.rst_transform_names.specs.declared.names.Holder.TheVariants.{Unregistered, Element}

-- the element of a number, or one without number
abbrev pub holder_of : Option ℕ → Holder
holder_of None = Unregistered
holder_of (Some number) = Element number

-- names, each with the number of the element that they pass to, if it has one
abbrev pub paired_with_number : Option ℕ → List (List ℕ) → List (List ℕ × Option ℕ)
paired_with_number number names = map (λ name. (name, number)) names

-- What is known of names once these have passed on, one after another, each to the element of its number. Of names that aren't known none becomes
-- known.
abbrev pub passed : List (List ℕ × Option ℕ) → (List ℕ → Option NameEntry) → List ℕ → Option NameEntry
passed [] entries = entries
passed (name ∷ more) entries = passed more (with_entry name.0 (with_holder (holder_of name.1) (entries name.0)) entries)

-- these names have passed on
abbrev pub Passes : List (List ℕ × Option ℕ) → Names → Names → Type 0
Passes names old new = (entries : List ℕ → Option NameEntry) → AreRegistered old entries → AreRegistered new (passed names entries)
