-- What escapes leave of the marks of targets (Markup Specification, 'Escaping Mechanism').
use Rattle.std.specs.Prelude.{ℕ, Bool, not, ◌&&◌, length}
use Rattle.std.specs.Option.{is_some}
use Rattle.rst_text.specs.Places.{first_from}
use Rattle.rst_text.specs.Characters.{has}
use Rattle.rst_text.specs.Escapes.{is_escaped}
use Rattle.rst_markup_directives.specs.Characters.{Text}

-- a character after the text is escaped: an odd number of backslashes ends it
abbrev pub ends_escaping : Text → Bool
ends_escaping t = is_escaped t 0 (length t)

-- a backquote is at the place and isn't escaped
abbrev pub is_bare_backquote : Text → ℕ → Bool
is_bare_backquote t i = has t i 96 && not (is_escaped t 0 i)

-- a backquote of the text isn't escaped
abbrev pub has_bare_backquote : Text → Bool
has_bare_backquote t = is_some (first_from (is_bare_backquote t) 0 (length t))
