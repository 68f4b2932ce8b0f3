-- The parts of the wider profile: what is read otherwise than in the base, each where it is asked for; and the directives and roles that are
-- handed back.
use Prim.Native.String.{String}
use Rattle.std.specs.Prelude.{ℕ, Bool, true, false, ◌&&◌, ◌==◌, List, codes, drop, slice_index, None, Some}
use Rattle.std.specs.List.{list_any, slice_split}
use Rattle.std.specs.Option.{option_map_or}
use Rattle.std.specs.Str.{str_eq_ignore_ascii_case}
use Rattle.rst_settings.specs.declared.Parts.{Parts}

-- no part is asked for, and no name is handed back
abbrev pub no_parts : Parts
no_parts = record { marks = false; mail = false; roles = false; directives = false; unmarked = false; keywords = false; handed = None }

-- every part is asked for, and no name is handed back
abbrev pub all_parts : Parts
all_parts = record { marks = true; mail = true; roles = true; directives = true; unmarked = true; keywords = true; handed = None }

-- every part is asked for, and these names are handed back, for worked examples
abbrev pub handing : String → Parts
handing names = record all_parts { handed = Some (record { ref_ptr = (0, 0); now = codes names }) }

-- the names that are handed back, each a line
abbrev pub name_lines : List ℕ → List (List ℕ)
name_lines names = slice_split (λ b. b == 10) names

-- a directive is among names, whatever the case of letters of ASCII
abbrev pub names_directive : List ℕ → List ℕ → Bool
names_directive names name = list_any (λ line. str_eq_ignore_ascii_case line name) (name_lines names)

-- a directive of this name is handed back
abbrev pub hands_directive : Parts → List ℕ → Bool
hands_directive parts name = option_map_or (λ names. names_directive names.now name) parts.handed false

-- a line is a colon and the name of a role
abbrev pub is_role_line : List ℕ → List ℕ → Bool
is_role_line line name = slice_index line 0 == 58 && str_eq_ignore_ascii_case (drop 1 line) name

-- a role is among names
abbrev pub names_role : List ℕ → List ℕ → Bool
names_role names name = list_any (λ line. is_role_line line name) (name_lines names)

-- a role of this name is handed back
abbrev pub hands_role : Parts → List ℕ → Bool
hands_role parts name = option_map_or (λ names. names_role names.now name) parts.handed false
