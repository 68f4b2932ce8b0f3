-- An identifier in one pass is the identifier in steps.
use Rattle.std.proofs.Common.{not, ◌≡◌, ◌<◌, ℕ, Bool, true, false, if◌then◌else◌, List, [], ◌∷◌, ◌++◌, filter, length, All, refl, sym, ap, ◌∙◌, arith, ⊎_elim, inl, inr, chars, encode_utf8_all}
use Rattle.std.proofs.Math.Utf8.{encode, encodes}
use Rattle.rst_text.proofs.Scanning.{Writes, Writes-start, Writes-over, Writes-one, Writes-two, Writes-end}
use Rattle.std.specs.Str.{IsUtf8, IsAscii}
use Rattle.std.proofs.lemmas.List.Elements.{All-from_get_or}
use Rattle.unicode_normalization.specs.Forms.{nfkd, Nfkd}
use Rattle.unicode_normalization.proofs.FormsLemmas.{normalize-ascii}
use Rattle.std.proofs.lemmas.Str.{chars_from_encodes, chars-IsAscii}
use Rattle.std.proofs.lemmas.Bool.Decides.{nat_tests}
use Rattle.std.specs.Char.{is_ascii, is_ascii_lowercase}
use Rattle.std.specs.List.{list_all}
use Rattle.std.proofs.lemmas.List.Sums.{AllPass-from_list_all}
use Rattle.rst_text.specs.Laws.{IdsAreDecomposed}
use Rattle.rst_text.specs.Names.{id_of, is_id_char, is_no_start, skip_while, identifier_of, name_of}
use Rattle.rst_text.proofs.Parts.{skip-next, skip-stop, joined_from, joined_from-start}
use Rattle.rst_text.proofs.PlacesLemmas.{cases_bool}

-- what separates the parts of an identifier
abbrev is_no_id_char : ℕ → Bool
is_no_id_char c = not (is_id_char c)

-- what the characters that are left give: `begun` means that a letter has come, `due` that a hyphen is due
abbrev pub id_from : Bool → Bool → List ℕ → List ℕ
id_from begun due [] = []
id_from false due (c ∷ cs) = if is_ascii_lowercase c then c ∷ id_from true due cs else id_from false due cs
id_from true due (c ∷ cs) = if is_ascii c then (if is_no_id_char c then id_from true true cs else (if due then 45 ∷ c ∷ id_from true false cs else c ∷ id_from true false cs)) else id_from true due cs

-- the parts of the characters that are ASCII, joined
abbrev hyphened : Bool → Bool → List ℕ → List ℕ
hyphened begun due cs = joined_from is_no_id_char 45 begun due (filter is_ascii cs)

-- after the first letter
begun-is : (due : Bool) (cs : List ℕ) → id_from true due cs ≡ hyphened true due cs
begun-is due [] = refl
begun-is due (c ∷ cs) = elim (cases_bool (is_ascii c)) [
  | inl a ↦ elim (cases_bool (is_id_char c)) [
    | inl b ↦ rw (a, b) (ap (λ l. if due then 45 ∷ c ∷ l else c ∷ l) (begun-is false cs))
    | inr b ↦ rw (a, b) (begun-is true cs)
  ]
  | inr a ↦ rw a (begun-is due cs)
]

-- ---- before the first letter

letter-char : (c : ℕ) → is_ascii_lowercase c ≡ true → (is_ascii c ≡ true) × (is_id_char c ≡ true) × (is_no_start c ≡ false)
unfolding is_id_char is_no_start
letter-char c h = (grind (arith, nat_tests), grind (arith, nat_tests), grind (arith, nat_tests))

no_letter-char : (c : ℕ) → is_ascii_lowercase c ≡ false → is_id_char c ≡ true → is_no_start c ≡ true
unfolding is_id_char is_no_start
no_letter-char c h k = grind (arith, nat_tests)

hyphen-no_start : is_no_start 45 ≡ true
unfolding is_no_start
hyphen-no_start = refl

-- a hyphen before the first character is left out
skip-due : (due : Bool) (c : ℕ) (cs : List ℕ) → skip_while is_no_start (if due then 45 ∷ c ∷ cs else c ∷ cs) ≡ skip_while is_no_start (c ∷ cs)
skip-due true c cs = skip-next is_no_start 45 (c ∷ cs) hyphen-no_start
skip-due false c cs = refl

begins : (begun due : Bool) (cs : List ℕ) → id_from false false cs ≡ skip_while is_no_start (hyphened begun due cs)
begins begun due [] = refl
begins begun due (c ∷ cs) = let tail : List ℕ = hyphened true false cs in elim (cases_bool (is_ascii_lowercase c)) [
  | inl l ↦
      (let k = letter-char c l in rw (l, k.0, k.1) (ap (λ l. c ∷ l) (begun-is false cs) ∙ sym (skip-due due c tail ∙ skip-stop is_no_start c tail k.2)))
  | inr l ↦ elim (cases_bool (is_ascii c)) [
    | inl a ↦ elim (cases_bool (is_id_char c)) [
      | inl b ↦ rw (l, a, b) (begins true false cs ∙ sym (skip-due due c tail ∙ skip-next is_no_start c tail (no_letter-char c l b)))
      | inr b ↦ rw (l, a, b) (begins begun begun cs)
    ]
    | inr a ↦ rw (l, a) (begins begun due cs)
  ]
]

pub id_from-start : (cs : List ℕ) → id_from false false cs ≡ identifier_of cs
unfolding identifier_of
id_from-start cs = begins false false cs ∙ ap (skip_while is_no_start) (joined_from-start is_no_id_char 45 (filter is_ascii cs))

-- ASCII is decomposed
pub nfkd-ascii : (bs : List ℕ) → IsAscii bs → nfkd (chars bs) ≡ chars bs
nfkd-ascii bs h =
    let same : chars bs ≡ bs = chars-IsAscii bs h in
    ap nfkd same ∙ normalize-ascii Nfkd bs (All-from_get_or (λ c. c < 128) bs 0 (λ i less. h i)) ∙ sym same

pub id_of-decomposed : IdsAreDecomposed
unfolding id_of
id_of-decomposed text =
    let name : List ℕ = name_of text in ⊎_elim
    (λ (e : list_all is_ascii name ≡ true).
    let ascii : All (λ c. c < 128) name = λ k d less. let passes = AllPass-from_list_all is_ascii name e k d less in grind (arith, nat_tests) in
    ap (λ b. identifier_of (if b then name else nfkd name)) e ∙ sym (ap identifier_of (normalize-ascii Nfkd name ascii)))
    (λ (e : list_all is_ascii name ≡ false). ap (λ b. identifier_of (if b then name else nfkd name)) e)
    (cases_bool (list_all is_ascii name))

-- the characters of a text that was made of scalars
pub chars-made : (bs cs : List ℕ) → IsUtf8 bs → bs ≡ encode_utf8_all cs → chars bs ≡ cs
chars-made bs cs u e = sym (chars_from_encodes cs bs u (sym e))

-- ---- in the words of the code

-- what is written, and what the bytes that are left give, are the identifier
abbrev pub Identifies : List ℕ → List ℕ → List ℕ → Bool → Bool → Type 0
Identifies text out rest begun due = Writes (id_from begun due) (identifier_of text) out rest

pub Identifies-start : (text out rest : List ℕ) → IsUtf8 text → rest ≡ text → out ≡ [] → Identifies (chars text) out rest false false
Identifies-start text out rest good same none = Writes-start (id_from false false) _ text out rest good same none (id_from-start (chars text))

module _ (text out rest after : List ℕ) (due : Bool) (c : ℕ) where
  -- a character that writes nothing
  pub Identifies-before : Identifies text out rest false due → rest ≡ encode c ++ after → is_ascii_lowercase c ≡ false → Identifies text out after false due
  Identifies-before x e h = Writes-over (id_from false due) (id_from false due) _ out rest after c x e (rw h refl)

  pub Identifies-past : Identifies text out rest true due → rest ≡ encode c ++ after → is_ascii c ≡ false → Identifies text out after true due
  Identifies-past x e h = Writes-over (id_from true due) (id_from true due) _ out rest after c x e (rw h refl)

  pub Identifies-run : Identifies text out rest true due → rest ≡ encode c ++ after → is_ascii c ≡ true → is_id_char c ≡ false → Identifies text out after true true
  Identifies-run x e a b = Writes-over (id_from true due) (id_from true true) _ out rest after c x e (rw (a, b) refl)

  -- a character that is written
  pub Identifies-first : Identifies text out rest false due → rest ≡ encode c ++ after → is_ascii_lowercase c ≡ true → Identifies text (out ++ encode c) after true due
  Identifies-first x e h = Writes-one (id_from false due) (id_from true due) _ out rest after c x e c (rw h refl)

  pub Identifies-char : Identifies text out rest true false → rest ≡ encode c ++ after → is_ascii c ≡ true → is_id_char c ≡ true → Identifies text (out ++ encode c) after true false
  Identifies-char x e a b = Writes-one (id_from true false) (id_from true false) _ out rest after c x e c (rw (a, b) refl)

  -- a character after a hyphen
  pub Identifies-due : Identifies text out rest true true → rest ≡ encode c ++ after → is_ascii c ≡ true → is_id_char c ≡ true → Identifies text ((out ++ encode 45) ++ encode c) after true false
  Identifies-due x e a b = Writes-two (id_from true true) (id_from true false) _ out rest after c x e 45 c (rw (a, b) refl)

pub Identifies-end : (text out rest : List ℕ) (begun due : Bool) → Identifies text out rest begun due → length rest ≡ 0 → out ≡ encodes (identifier_of text)
Identifies-end text out rest begun due x none = Writes-end (id_from begun due) _ out rest refl x none
