-- Texts in which no markup can begin, or no standalone hyperlink of the wider profile. No rule of markup: they take less time.
use Rattle.std.specs.Prelude.{ℕ, Bool, true, false, not, ◌&&◌, ◌||◌, [], ◌∷◌}
use Rattle.std.specs.List.{list_all}
use Rattle.rst_text.specs.Characters.{Text, is_among}
use Rattle.rst_inline_scan.specs.Mail.{holds_at_sign}
use Rattle.rst_inline_scan.specs.Registered.{holds_colon}

-- none of * _ ` | : \
abbrev pub is_quiet : ℕ → Bool
is_quiet c = not (is_among (42 ∷ 95 ∷ 96 ∷ 124 ∷ 58 ∷ 92 ∷ []) c)

-- each character of the text is quiet, and none is an @ where addresses are asked for
abbrev pub quiet : Bool → Text → Bool
quiet false t = list_all is_quiet t
quiet true t = list_all is_quiet t && not (holds_at_sign t)

-- an address or a URI of a registered scheme may be in the text, where these are asked for
abbrev pub may_hold_links : Bool → Bool → Text → Bool
may_hold_links mail registered t = (mail && holds_at_sign t) || (registered && holds_colon t)
