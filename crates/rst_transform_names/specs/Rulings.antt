-- Equal names: what happens to a name with which one more element was written (reStructuredText Markup Specification,
-- 'Implicit Hyperlink Targets').
use Rattle.std.specs.Prelude.{Bool, true, false, if◌then◌else◌, Option, Some, None}
use Rattle.rst_tree.specs.declared.note.Level.TheVariants.{Info, Warning}
use Rattle.rst_transform_names.specs.declared.names.Holder.{Holder}
use Rattle.rst_transform_names.specs.declared.names.Holder.TheVariants.{Nobody as Lost}
use Rattle.rst_transform_names.specs.declared.names.Strength.{Strength}
use Rattle.rst_transform_names.specs.declared.names.Strength.TheVariants.{Implicit, Explicit}
use Rattle.rst_transform_names.specs.declared.rulings.Now.TheVariants.{Old, New, Nobody}
use Rattle.rst_transform_names.specs.declared.rulings.DuplicateMessage.{DuplicateMessage}
use Rattle.rst_transform_names.specs.declared.rulings.Ruling.{Ruling}

abbrev pub info : Strength → Option DuplicateMessage
info strength = Some (record { level = Info; strength = strength })

abbrev pub warning : Option DuplicateMessage
warning = Some (record { level = Warning; strength = Explicit })

-- no element had the name before, or all that had it were sections that lost it: the new one has it
abbrev pub new_has_it : Ruling
new_has_it = record { now = New; loser = Lost; new_loses = false; message = None }

-- the element that has the name keeps it
abbrev pub old_keeps_it : Strength → Ruling
old_keeps_it strength = record { now = Old; loser = Lost; new_loses = true; message = info strength }

-- neither the element that had the name, if there is one, nor the new one has it
abbrev pub nobody_has_it : Holder → Option DuplicateMessage → Ruling
nobody_has_it loser message = record { now = Nobody; loser = loser; new_loses = true; message = message }

-- by who holds the name and how it was given, and how it is given now; `same`: two targets with the same URI
unfoldable pub registered_ruling : Strength → Holder → Strength → Bool → Ruling
registered_ruling Implicit Lost Explicit same = new_has_it
registered_ruling Implicit holder Explicit same = record new_has_it { loser = holder; message = info Implicit }
registered_ruling Explicit Lost Explicit same = nobody_has_it Lost warning
registered_ruling Explicit holder Explicit same = if same then old_keeps_it Explicit else nobody_has_it holder warning
registered_ruling Implicit holder Implicit same = nobody_has_it holder (info Implicit)
registered_ruling Explicit Lost Implicit same = nobody_has_it Lost (info Implicit)
registered_ruling Explicit holder Implicit same = old_keeps_it Implicit

abbrev pub ruling_for : Option (Strength × Holder) → Strength → Bool → Ruling
ruling_for None new same = new_has_it
ruling_for (Some (old, holder)) new same = registered_ruling old holder new same
