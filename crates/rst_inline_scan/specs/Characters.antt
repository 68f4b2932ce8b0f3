-- The characters that decide where inline markup may occur (Markup Specification, 'Inline markup recognition rules').
use Rattle.std.specs.Prelude.{ℕ, ◌+◌, Bool, true, false, not, ◌&&◌, ◌||◌, ◌==◌, nat_lt, [], ◌∷◌, slice_index, length}
use Rattle.unicode.specs.GeneralCategory.{general_category}
use Rattle.ucd_category.specs.declared.GeneralCategory.{GeneralCategory}
use Rattle.ucd_category.specs.declared.GeneralCategory.TheVariants.{OpenPunctuation, ClosePunctuation, InitialPunctuation, FinalPunctuation, DashPunctuation, OtherPunctuation}
use Rattle.rst_text.specs.Characters.{Text, has, is_among, is_white}

-- of the category Ps, Pi, Pf, Pd or Po
abbrev pub may_precede_by : GeneralCategory → Bool
may_precede_by OpenPunctuation = true
may_precede_by InitialPunctuation = true
may_precede_by FinalPunctuation = true
may_precede_by DashPunctuation = true
may_precede_by OtherPunctuation = true
may_precede_by _ = false

-- of the category Pe, Pi, Pf, Pd or Po
abbrev pub may_follow_by : GeneralCategory → Bool
may_follow_by ClosePunctuation = true
may_follow_by InitialPunctuation = true
may_follow_by FinalPunctuation = true
may_follow_by DashPunctuation = true
may_follow_by OtherPunctuation = true
may_follow_by _ = false

-- The character may occur before a start: one of -:/'"<([{, white, or past ASCII punctuation of the categories Ps, Pi, Pf,
-- Pd and Po.
unfoldable pub may_precede_start : ℕ → Bool
may_precede_start c = is_among (45 ∷ 58 ∷ 47 ∷ 39 ∷ 34 ∷ 60 ∷ 40 ∷ 91 ∷ 123 ∷ []) c || (is_white c || (not (nat_lt c 128) && may_precede_by (general_category c)))

-- The character may follow an end: one of '")]}>-/\:.,;!?, white, or past ASCII punctuation of the categories Pe, Pi,
-- Pf, Pd and Po.
unfoldable pub may_follow : ℕ → Bool
may_follow c = is_among (39 ∷ 34 ∷ 41 ∷ 93 ∷ 125 ∷ 62 ∷ 45 ∷ 47 ∷ 92 ∷ 58 ∷ 46 ∷ 44 ∷ 59 ∷ 33 ∷ 63 ∷ []) c || (is_white c || (not (nat_lt c 128) && may_follow_by (general_category c)))

-- one of '' "" <> () [] {}
unfoldable pub is_pair : ℕ → ℕ → Bool
is_pair a b = (a == 39 && b == 39) || ((a == 34 && b == 34) || ((a == 60 && b == 62) || ((a == 40 && b == 41) || ((a == 91 && b == 93) || (a == 123 && b == 125)))))

-- the string is at the place
abbrev pub has_string : Text → ℕ → Text → Bool
has_string t i [] = true
has_string t i (c ∷ cs) = has t i c && has_string t (i + 1) cs

-- nothing is at the place, or what may follow an end
abbrev pub is_free_after : Text → ℕ → Bool
is_free_after t i = not (nat_lt i (length t)) || may_follow (slice_index t i)
