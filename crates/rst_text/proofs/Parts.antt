-- The parts of a text between separating characters, one character at a time.
use Rattle.std.proofs.Common.{◌≡◌, ℕ, ◌+◌, Bool, true, false, cond, if◌then◌else◌, not, List, [], ◌∷◌, ◌++◌, drop, filter, refl, sym, ap, ◌∙◌, append-nil, inl, inr}
use Rattle.std.proofs.lemmas.List.{drop-drop}
use Rattle.std.specs.List.{join_with_byte, onto_first, prefix_len, slice_split}
use Rattle.rst_text.specs.Block.{is_blank}
use Rattle.rst_text.specs.Names.{parts_between, skip_while}
use Rattle.rst_text.proofs.PlacesLemmas.{cases_bool}

-- ---- what is left after some characters

pub skip-next : (passes : ℕ → Bool) (c : ℕ) (cs : List ℕ) → passes c ≡ true → skip_while passes (c ∷ cs) ≡ skip_while passes cs
skip-next passes c cs h = rw h (sym (drop-drop (prefix_len passes cs) 1 (c ∷ cs)))

pub skip-stop : (passes : ℕ → Bool) (c : ℕ) (cs : List ℕ) → passes c ≡ false → skip_while passes (c ∷ cs) ≡ c ∷ cs
skip-stop passes c cs h = ap (λ b. drop (cond b (1 + prefix_len passes cs) 0) (c ∷ cs)) h

-- ---- parts

abbrev some_parts : List (List ℕ) → List (List ℕ)
some_parts parts = filter (λ (part : List ℕ). not (is_blank part)) parts

-- ---- joined in one pass

-- what the characters that are left give: `begun` means that a part has come, `due` that a separator has come since
abbrev pub joined_from : (ℕ → Bool) → ℕ → Bool → Bool → List ℕ → List ℕ
joined_from separates j begun due [] = []
joined_from separates j begun due (c ∷ cs) =
    if separates c then joined_from separates j begun begun cs
    else if due then j ∷ c ∷ joined_from separates j true false cs
    else c ∷ joined_from separates j true false cs

module _ (separates : ℕ → Bool) (j : ℕ) where
  pub joined_from-over : (begun due : Bool) (c : ℕ) (cs : List ℕ) → separates c ≡ true → joined_from separates j begun due (c ∷ cs) ≡ joined_from separates j begun begun cs
  joined_from-over begun due c cs h = rw h refl

  pub joined_from-due : (begun : Bool) (c : ℕ) (cs : List ℕ) → separates c ≡ false → joined_from separates j begun true (c ∷ cs) ≡ j ∷ c ∷ joined_from separates j true false cs
  joined_from-due begun c cs h = rw h refl

  pub joined_from-char : (begun : Bool) (c : ℕ) (cs : List ℕ) → separates c ≡ false → joined_from separates j begun false (c ∷ cs) ≡ c ∷ joined_from separates j true false cs
  joined_from-char begun c cs h = rw h refl

  -- the parts that come after another, each after a separator
  abbrev further : List (List ℕ) → List ℕ
  further [] = []
  further (w ∷ ws) = j ∷ join_with_byte j (w ∷ ws)

  -- what follows a character: its part to the end, and the others
  abbrev after_character : List (List ℕ) → List ℕ
  after_character [] = []
  after_character (part ∷ parts) = part ++ further (some_parts parts)

  further-first : (w : List ℕ) (ws : List (List ℕ)) → join_with_byte j (w ∷ ws) ≡ w ++ further ws
  further-first w [] = sym (append-nil w)
  further-first w (v ∷ ws) = refl

  onto : (c : ℕ) (parts : List (List ℕ)) → (after_character (onto_first c parts) ≡ c ∷ after_character parts) × (join_with_byte j (some_parts (onto_first c parts)) ≡ c ∷ after_character parts)
      × (further (some_parts (onto_first c parts)) ≡ j ∷ c ∷ after_character parts)
  onto c [] = (refl, refl, refl)
  onto c (part ∷ parts) = let e = further-first (c ∷ part) (some_parts parts) in (refl, e, ap (λ l. j ∷ l) e)

  mutual
    -- after a part and a separator
    joined-due : (cs : List ℕ) → joined_from separates j true true cs ≡ further (parts_between separates cs)
    joined-due [] = refl
    joined-due (c ∷ cs) = elim (cases_bool (separates c)) [
      | inl h ↦ rw h (joined-due cs)
      | inr h ↦ rw h (ap (λ l. j ∷ c ∷ l) (joined-after cs) ∙ sym (onto c (slice_split separates cs)).2)
    ]

    -- after a character of a part
    joined-after : (cs : List ℕ) → joined_from separates j true false cs ≡ after_character (slice_split separates cs)
    joined-after [] = refl
    joined-after (c ∷ cs) = elim (cases_bool (separates c)) [
      | inl h ↦ rw h (joined-due cs)
      | inr h ↦ rw h (ap (λ l. c ∷ l) (joined-after cs) ∙ sym (onto c (slice_split separates cs)).0)
    ]

  -- One pass over a text gives its parts, joined.
  pub joined_from-start : (cs : List ℕ) → joined_from separates j false false cs ≡ join_with_byte j (parts_between separates cs)
  joined_from-start [] = refl
  joined_from-start (c ∷ cs) = elim (cases_bool (separates c)) [
    | inl h ↦ rw h (joined_from-start cs)
    | inr h ↦ rw h (ap (λ l. c ∷ l) (joined-after cs) ∙ sym (onto c (slice_split separates cs)).1)
  ]
