-- Simple reference names (Markup Specification, 'Reference Names').
use Rattle.std.specs.Prelude.{ℕ, ◌+◌, ◌-◌, Bool, not, ◌&&◌, ◌||◌, ◌==◌, nat_lt, Option, None, slice_index, length, unwrap_or, if◌then◌else◌}
use Rattle.rst_text.specs.Characters.{Text, is_alnum_at}
use Rattle.rst_text.specs.Places.{first_from, all_from}

-- one of - _ . : +
unfoldable pub is_joint : ℕ → Bool
is_joint c = c == 45 || (c == 95 || (c == 46 || (c == 58 || c == 43)))

-- The place may be one of a simple reference name: a letter or a number is there, or a joint between two of these.
unfoldable pub is_name_at : Text → ℕ → Bool
is_name_at t i = is_alnum_at t i || (is_joint (slice_index t i) && (nat_lt 0 i && (is_alnum_at t (i - 1) && is_alnum_at t (i + 1))))

-- the text is a simple reference name: it isn't empty, and each of its places may be one of such a name
unfoldable pub is_simple_name : Text → Bool
is_simple_name t = nat_lt 0 (length t) && all_from (is_name_at t) 0 (length t)

-- the end of the longest simple name that begins at the place, where something follows it
unfoldable pub name_stop : Text → ℕ → Option ℕ
name_stop t i = if is_alnum_at t i then first_from (λ k. not (is_name_at t k)) i (length t - i) else None

-- how many characters the longest simple name has that a text begins with; 0 where it begins with none
unfoldable pub simple_name : Text → ℕ
simple_name t = if is_alnum_at t 0 then unwrap_or (name_stop t 0) (length t) else 0
