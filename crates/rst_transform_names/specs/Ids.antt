-- Ids: which are taken, and which one an element gets (Document Tree, attribute `ids`).
use Rattle.std.specs.Prelude.{◌≡◌, ℕ, zero, suc, ◌+◌, ◌<◌, ◌^◌, Bool, true, false, ◌==◌, ◌&&◌, ◌||◌, if◌then◌else◌, List, [], ◌∷◌, ◌++◌, length, codes, decimal, Option, Some, None, option_map, option_and_then, unwrap_or, nat_le, nat_lt, Result, Ok, Err}
use Rattle.std.specs.BTreeMap.{get_by_text}
use Rattle.std.specs.BTreeSet.{contains_text}
use Rattle.std.specs.List.{list_any}
use Rattle.std.specs.Str.{bytes_eq}
use Rattle.std.specs.Str.Parse.{digits_value}
use Rattle.rst_text.specs.Names.{identifier}
use Rattle.rst_tree.specs.TagNames.{hyphenated, tag_name}
use Rattle.std.specs.declared.alloc.AllocError.{AllocError}
use Rattle.rst_tree.specs.declared.tag.Tag.{Tag}
use Rattle.rst_transform_names.specs.declared.ids.Ids.{Ids}

-- the id of a text and a number
abbrev pub id_with_number : List ℕ → ℕ → List ℕ
id_with_number base n = (base ++ codes "-") ++ decimal n

-- the number from 1 that digits write, if they are its decimal digits; the largest is that of 64 bits
abbrev pub number_in : List ℕ → Option ℕ
number_in digits = let n = digits_value 10 digits in if bytes_eq digits (decimal n) && (nat_lt 0 n && nat_lt n (2 ^ 64)) then Some n else None

-- what comes before the last hyphen of an id, and what comes after it, if it has one
abbrev pub parts_from : ℕ → List ℕ → Option (List ℕ × List ℕ) → Option (List ℕ × List ℕ)
parts_from c cs None = if c == 45 then Some ([], cs) else None
parts_from c cs (Some parts) = Some (c ∷ parts.0, parts.1)

abbrev pub id_parts : List ℕ → Option (List ℕ × List ℕ)
id_parts [] = None
id_parts (c ∷ cs) = parts_from c cs (id_parts cs)

-- the same where a number comes after it
abbrev pub numbered_part : List ℕ × List ℕ → Option (List ℕ × ℕ)
numbered_part parts = option_map (λ n. (parts.0, n)) (number_in parts.1)

abbrev pub id_number : List ℕ → Option (List ℕ × ℕ)
id_number id = option_and_then numbered_part (id_parts id)

-- the number up to which all ids of a text are taken; 0 where there is none
abbrev pub last_number : Ids → List ℕ → ℕ
last_number ids base = unwrap_or (get_by_text ids.last base) 0

-- an id with a number is taken where that is no more than the number of its text, and where it is kept by itself; any other where a name gave it
abbrev pub taken_by : Ids → List ℕ → Option (List ℕ × ℕ) → Bool
taken_by ids id None = contains_text ids.named id
taken_by ids id (Some (base, n)) = nat_le n (last_number ids base) || contains_text ids.hindering id

abbrev pub is_taken : Ids → List ℕ → Bool
is_taken ids id = taken_by ids id (id_number id)

-- the least number from 1 with which the id of a text is free, by which ids are taken
pub record IsLeastFree (taken : List ℕ → Bool) (base : List ℕ) (n : ℕ) : Type 0 where
  pub from_one : 0 < n
  pub is_free : taken (id_with_number base n) ≡ false
  pub is_least : (m : ℕ) → 0 < m → m < n → taken (id_with_number base m) ≡ true

-- an id is among some
abbrev pub has_id : List (List ℕ) → List ℕ → Bool
has_id ids id = list_any (bytes_eq id) ids

-- the least number, from one on, that doesn't pass a test; at most a given number of them pass it
abbrev pub least_failing_from : (ℕ → Bool) → ℕ → ℕ → ℕ
least_failing_from test number zero = number
least_failing_from test number (suc more) = if test number then least_failing_from test (number + 1) more else number

-- where these ids are taken, the id of a text and the least number from 1 that makes it free: each taken id hinders one number at most
abbrev pub least_free : List (List ℕ) → List ℕ → ℕ
least_free taken base = least_failing_from (λ number. has_id taken (id_with_number base number)) 1 (length taken)

abbrev pub numbered_id : List (List ℕ) → List ℕ → List ℕ
numbered_id taken base = id_with_number base (least_free taken base)

-- the id of a new element of a kind without a name: the kind's name with a number
abbrev pub kind_id : List (List ℕ) → Tag → List ℕ
kind_id taken tag = numbered_id taken (hyphenated (tag_name tag))

-- the id of a new element of a kind by what its name gives: that, with a number if it is taken; where that is nothing, the kind's name with a number
abbrev pub id_by : List (List ℕ) → Tag → List ℕ → List ℕ
id_by taken tag [] = kind_id taken tag
id_by taken tag (c ∷ cs) = if has_id taken (c ∷ cs) then numbered_id taken (c ∷ cs) else c ∷ cs

abbrev pub id_for : List (List ℕ) → Tag → List ℕ → List ℕ
id_for taken tag name = id_by taken tag (identifier name)

-- the ids that are taken are these
abbrev pub AreTaken : Ids → List (List ℕ) → Type 0
AreTaken ids taken = (id : List ℕ) → is_taken ids id ≡ has_id taken id

-- one more id is taken, or none
abbrev pub TakesId : List ℕ → Ids → Ids → Type 0
TakesId id old new = (other : List ℕ) → is_taken new other ≡ (if bytes_eq other id then true else is_taken old other)

abbrev pub TakesNone : Ids → Ids → Type 0
TakesNone old new = (other : List ℕ) → is_taken new other ≡ is_taken old other

-- the element's id is given and taken, or memory ran out and none is
abbrev pub GivesId : Tag → List ℕ → Ids → Ids → Result (List ℕ) AllocError → Type 0
GivesId tag name old new (Ok id) = (taken : List (List ℕ)) → AreTaken old taken → (id ≡ id_for taken tag name) × AreTaken new (id ∷ taken)
GivesId tag name old new (Err refused) = TakesNone old new

-- the same of the id of a text and a number, and of the number alone
abbrev pub GivesNumbered : List ℕ → Ids → Ids → Result (List ℕ) AllocError → Type 0
GivesNumbered base old new (Ok id) = (taken : List (List ℕ)) → AreTaken old taken → (id ≡ numbered_id taken base) × AreTaken new (id ∷ taken)
GivesNumbered base old new (Err refused) = TakesNone old new

abbrev pub GivesNumber : List ℕ → Ids → Ids → Result ℕ AllocError → Type 0
GivesNumber base old new (Ok number) =
    (taken : List (List ℕ)) → AreTaken old taken → (number ≡ least_free taken base) × AreTaken new (id_with_number base number ∷ taken)
GivesNumber base old new (Err refused) = TakesNone old new
