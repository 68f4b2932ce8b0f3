-- Interpreted text with roles.
use Rattle.std.proofs.Common.{◌≡◌, ℕ, Bool, false, List, Option, Some, ap, sym, ◌∙◌, if◌then◌else◌}
use Rattle.std.specs.Str.{chars, IsUtf8}
use Rattle.rst_settings.specs.Parts.{hands_role}
use Rattle.rst_settings.specs.declared.Parts.{Parts}
use Rattle.rst_text.specs.Characters.{Text}
use Rattle.rst_inline.specs.declared.reading.Meaning.{Meaning}
use Rattle.rst_inline.specs.declared.roles.Role.{Role}
use Rattle.rst_inline.specs.declared.roles.Role.TheVariants.{Raw}
use Rattle.rst_inline.specs.Readings.{handed_role, raw_role, role_reading, role_reading_by}
use Rattle.rst_inline.specs.Roles.{role_named}
use Rattle.rst_inline.proofs.TextLemmas.{spelled_again}

-- interpreted text whose role isn't handed back, by the name of the role in bytes
abbrev read_by : Parts → List ℕ → Text → Text → ℕ → Meaning
read_by parts name source written line =
    if hands_role parts name then handed_role name source line else role_reading_by (role_named parts.roles name) name source written line

pub raw-read : (parts : Parts) (name : List ℕ) (source written : Text) (line : ℕ) → IsUtf8 name → hands_role parts name ≡ false → Some Raw ≡ role_named parts.roles name
    → raw_role name ≡ role_reading parts (chars name) source written line
raw-read parts name source written line utf8 kept named =
    ap (λ (role : Option Role). role_reading_by role name source written line) named
    ∙ sym (ap (λ (b : Bool). if b then handed_role name source line else role_reading_by (role_named parts.roles name) name source written line) kept)
    ∙ ap (λ (name : List ℕ). read_by parts name source written line) (spelled_again name utf8)
