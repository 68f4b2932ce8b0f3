-- A text that is read a character at a time, with each run of white characters as one space.
use Rattle.std.proofs.Common.{◌≡◌, ◌<◌, ℕ, Bool, true, false, List, [], ◌∷◌, ◌++◌, map, length, arith, refl, sym, ap, ◌∙◌, subst}
use Rattle.std.specs.Str.{IsAscii, IsUtf8, chars}
use Rattle.std.proofs.Math.Utf8.{encode, encodes}
use Rattle.std.proofs.lemmas.Str.{chars-IsAscii}
use Rattle.std.proofs.lemmas.Str.Ascii.{IsAscii-cons, IsAscii-nil}
use Rattle.std.proofs.lemmas.Bool.Decides.{nat_tests}
use Rattle.rst_text.proofs.Scanning.{Writes, Writes-start, Writes-over, Writes-one, Writes-two, Writes-end}
use Rattle.rst_text.specs.Characters.{is_white}
use Rattle.rst_text.specs.Names.{normalized_white}
use Rattle.rst_text.proofs.Parts.{joined_from, joined_from-over, joined_from-due, joined_from-char, joined_from-start}

-- what the characters that are left give: `begun` means that a word has come, `due` that white has come since
abbrev pub spaced_from : Bool → Bool → List ℕ → List ℕ
spaced_from begun due cs = joined_from is_white 32 begun due cs

-- One pass over a text gives its words with one space between them.
pub spaced_from-start : (cs : List ℕ) → spaced_from false false cs ≡ normalized_white cs
unfolding normalized_white
spaced_from-start cs = joined_from-start is_white 32 cs

-- ---- in the words of the code

-- what is written, and what the bytes that are left give, are the text with what f makes of each character
abbrev pub Spaces : (ℕ → ℕ) → List ℕ → List ℕ → List ℕ → Bool → Bool → Type 0
Spaces f text out rest begun due = Writes (λ cs. map f (spaced_from begun due cs)) (map f (normalized_white text)) out rest

pub Spaces-start : (f : ℕ → ℕ) (text out rest : List ℕ) → IsUtf8 text → rest ≡ text → out ≡ [] → Spaces f (chars text) out rest false false
Spaces-start f text out rest good same none = Writes-start _ _ text out rest good same none (ap (map f) (spaced_from-start (chars text)))

module _ (f : ℕ → ℕ) (text out rest after : List ℕ) (begun : Bool) (c : ℕ) where
  pub Spaces-white : (due : Bool) → Spaces f text out rest begun due → rest ≡ encode c ++ after → is_white c ≡ true → Spaces f text out after begun begun
  Spaces-white due x e h = Writes-over _ _ _ out rest after c x e (ap (map f) (joined_from-over is_white 32 begun due c (chars after) h))

  pub Spaces-word : Spaces f text out rest begun false → rest ≡ encode c ++ after → is_white c ≡ false → Spaces f text (out ++ encode (f c)) after true false
  Spaces-word x e h = Writes-one _ _ _ out rest after c x e (f c) (ap (map f) (joined_from-char is_white 32 begun c (chars after) h))

  pub Spaces-due : Spaces f text out rest begun true → rest ≡ encode c ++ after → is_white c ≡ false → Spaces f text ((out ++ encode (f 32)) ++ encode (f c)) after true false
  Spaces-due x e h = Writes-two _ _ _ out rest after c x e (f 32) (f c) (ap (map f) (joined_from-due is_white 32 begun c (chars after) h))

pub Spaces-end : (f : ℕ → ℕ) (text out rest : List ℕ) (begun due : Bool) → Spaces f text out rest begun due → length rest ≡ 0 → out ≡ encodes (map f (normalized_white text))
Spaces-end f text out rest begun due x none = Writes-end _ _ out rest refl x none

-- ---- a text that has its words with one space between them already

-- The characters that are left after a character of a word stay as they are, and are ASCII.
abbrev Stays : (ℕ → ℕ) → List ℕ → Type 0
Stays f rest = IsAscii rest × (spaced_from true false rest ≡ rest) × (map f rest ≡ rest)

-- the text is ASCII that stays as it is
abbrev Settled : (ℕ → ℕ) → List ℕ → Type 0
Settled f text = IsAscii text × (normalized_white text ≡ text) × (map f text ≡ text)

-- The text stays as it is if what is left does, after a character of a word or not.
abbrev pub Settles : (ℕ → ℕ) → List ℕ → List ℕ → Bool → Type 0
Settles f text rest true = Stays f rest → Settled f text
Settles f text rest false = (c : ℕ) (cs : List ℕ) → rest ≡ c ∷ cs → c < 128 → is_white c ≡ false → f c ≡ c → Stays f cs → Settled f text

cons : {c d : ℕ} {cs ds : List ℕ} → d ≡ c → ds ≡ cs → d ∷ ds ≡ c ∷ cs
cons e f = cc

dark : (c : ℕ) → 32 < c → c < 128 → is_white c ≡ false
unfolding is_white
dark c more low = grind (arith, nat_tests)

blank : is_white 32 ≡ true
unfolding is_white
blank = refl

pub Settles-start : (f : ℕ → ℕ) (text : List ℕ) → Settles f text text false
Settles-start f text c cs e low h same s = (
  subst IsAscii (sym e) (IsAscii-cons c cs low s.0),
  ap normalized_white e ∙ sym (spaced_from-start (c ∷ cs)) ∙ joined_from-char is_white 32 false c cs h ∙ ap (λ l. c ∷ l) s.1 ∙ sym e,
  ap (map f) e ∙ cons same s.2 ∙ sym e,
)

pub Settles-word : (f : ℕ → ℕ) (text rest cs : List ℕ) (in_word : Bool) (c : ℕ) → Settles f text rest in_word → rest ≡ c ∷ cs → c < 128 → 32 < c → f c ≡ c → Settles f text cs true
Settles-word f text rest cs true c x e low more same s = x (
  subst IsAscii (sym e) (IsAscii-cons c cs low s.0),
  ap (spaced_from true false) e ∙ joined_from-char is_white 32 true c cs (dark c more low) ∙ ap (λ l. c ∷ l) s.1 ∙ sym e,
  ap (map f) e ∙ cons same s.2 ∙ sym e,
)
Settles-word f text rest cs false c x e low more same s = x c cs e low (dark c more low) same s

pub Settles-space : (f : ℕ → ℕ) (text rest cs : List ℕ) → Settles f text rest true → rest ≡ 32 ∷ cs → f 32 ≡ 32 → Settles f text cs false
Settles-space f text rest cs x e space c ds k low h same s =
    let is : rest ≡ 32 ∷ c ∷ ds = e ∙ ap (λ l. 32 ∷ l) k in
    x (
      subst IsAscii (sym is) (IsAscii-cons 32 (c ∷ ds) (omega arith) (IsAscii-cons c ds low s.0)),
      ap (spaced_from true false) is ∙ joined_from-over is_white 32 true false 32 (c ∷ ds) blank ∙ joined_from-due is_white 32 true c ds h ∙ ap (λ l. 32 ∷ c ∷ l) s.1 ∙ sym is,
      ap (map f) is ∙ cons space (cons same s.2) ∙ sym is,
    )

pub Settles-end : (f : ℕ → ℕ) (text rest : List ℕ) → Settles f text rest true → length rest ≡ 0 → (normalized_white (chars text) ≡ chars text) × (map f (chars text) ≡ chars text)
Settles-end f text [] x none =
    let s : Settled f text = x (IsAscii-nil, refl, refl) in
    let bytes : chars text ≡ text = chars-IsAscii text s.0 in (ap normalized_white bytes ∙ s.1 ∙ sym bytes, ap (map f) bytes ∙ s.2 ∙ sym bytes)
Settles-end f text (b ∷ rest) x none = absurd (omega arith)
