-- What may follow the end-string or the name of inline markup (Markup Specification, 'Interpreted Text',
-- 'Hyperlink References', 'Substitution References').
use Rattle.std.specs.Prelude.{ℕ, ◌+◌, ◌&&◌, Option, None, Some, if◌then◌else◌}
use Rattle.std.specs.Option.{option_or}
use Rattle.rst_text.specs.Characters.{Text, has}
use Rattle.rst_inline_scan.specs.Characters.{is_free_after}
use Rattle.rst_inline_scan.specs.declared.piece.Suffix.TheVariants.{Bare, Role, Named, Anonymous}
use Rattle.rst_inline_scan.specs.declared.piece.Tail.{Tail}

-- two underscores at the place, if what follows them fits
abbrev pub anonymous_tail : Text → ℕ → Option Tail
anonymous_tail t e = if has t e 95 && (has t (e + 1) 95 && is_free_after t (e + 2)) then Some (record { suffix = Anonymous; to = e + 2 }) else None

-- one underscore at the place, if what follows it fits
abbrev pub named_tail : Text → ℕ → Option Tail
named_tail t e = if has t e 95 && is_free_after t (e + 1) then Some (record { suffix = Named; to = e + 1 }) else None

-- a role that ends at a place, if there is one and what follows it fits
abbrev pub role_tail : Text → Option ℕ → Option Tail
role_tail t (Some r) = if is_free_after t r then Some (record { suffix = Role; to = r }) else None
role_tail t None = None

-- nothing, if what is at the place may follow an end
abbrev pub bare_tail : Text → ℕ → Option Tail
bare_tail t e = if is_free_after t e then Some (record { suffix = Bare; to = e }) else None

-- the underscores after a name, two where both fit
unfoldable pub name_tail : Text → ℕ → Option Tail
name_tail t e = option_or (anonymous_tail t e) (named_tail t e)
