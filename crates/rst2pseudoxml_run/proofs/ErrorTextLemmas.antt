-- Lemmas on lists of messages.
use Rattle.std.proofs.Common.{◌≡◌, ◌-◌, suc, List, ◌∷◌, [], length, None, Some, Option, ap, ◌∙◌, Bool, arith, slice_get}
use Rattle.rst_tree.specs.declared.note.Note.{Note}
use Rattle.std.specs.Prelude.{if◌then◌else◌}
use Rattle.rst_settings.specs.declared.Settings.{Settings}
use Rattle.rst_settings.specs.Threshold.{is_reached}
use Rattle.rst_tree.specs.LevelNames.{level_number}
use Rattle.rst2pseudoxml_run.specs.RunResult.{last_level, if_reached, halting}

pub last_level_some : (notes : List Note) (note : Note) → slice_get notes (length notes - 1) ≡ Some note → last_level notes ≡ Some note.level
last_level_some [] note e = cc
last_level_some (n ∷ []) note e = ap (λ (m : Option Note). last_level (n ∷ [])) e ∙ cc
last_level_some (n ∷ m ∷ ns) note e =
    let place : length (n ∷ m ∷ ns) - 1 ≡ suc (length (m ∷ ns) - 1) = omega arith in
    last_level_some (m ∷ ns) note (rw place at e)

-- the last message halts the run, or it doesn't
pub halting_last : (settings : Settings) (notes : List Note) (note : Note) (reached : Bool) → slice_get notes (length notes - 1) ≡ Some note
    → is_reached settings.halt (level_number note.level) ≡ reached → halting settings notes ≡ (if reached then Some note.level else None)
halting_last settings notes note reached e r =
    ap (if_reached settings) (last_level_some notes note e) ∙ ap (λ (b : Bool). if b then Some note.level else None) r
