-- The lines of a cell.
use Rattle.std.proofs.Common.{◌≡◌, ℕ, zero, suc, ◌-◌, ◌<◌, true, false, List, [], ◌∷◌, length, drop, take, refl, sym, ap, ◌∙◌, subst, arith, map, Option, Some, None, chars}
use Rattle.std.specs.List.{list_any}
use Rattle.std.specs.String.Boundary.{IsSplitPoint}
use Rattle.std.specs.Str.{drop_trailing_whitespace, all_scalars, encode_utf8_all, trim_end, IsAscii, IsTrimEnd, IsUtf8}
use Rattle.std.proofs.lemmas.Bool.{cond_both}
use Rattle.std.proofs.lemmas.Bool.Decides.{nat_tests}
use Rattle.std.proofs.lemmas.Str.{chars-encodes, IsCharBoundary-from_take}
use Rattle.unicode_width.specs.Width.{char_width}
use Rattle.rst_text.specs.Block.{Line, Block, indentation, is_blank}
use Rattle.rst_text.specs.Lines.{is_line_end, is_line_text}
use Rattle.rst_text.proofs.Cuts.{scalars-drop, scalars-take}
use Rattle.rst_text.proofs.Least.{least_from, lower}
use Rattle.rst_text.proofs.LineTexts.{none-parts, is_line_text-trimmed}
use Rattle.rst_text.proofs.LinesLemmas.{chars-trim_end}
use Rattle.rst_markup_tables.specs.Places.{places_of, is_double}
use Rattle.rst_markup_tables.specs.Cells.{characters, cut_places, AreOfLine}
use Rattle.rst_markup_tables.specs.declared.places.Place.{Place}
use Rattle.rst_markup_tables.specs.declared.places.Place.TheVariants.{Character, Second}

pub least_from-blank : (m : Option ℕ) (l : Line) (ls : Block) → is_blank l.text ≡ true → least_from m (l ∷ ls) ≡ least_from m ls
unfolding least_from
least_from-blank m l ls e = rw e refl

pub least_from-dark : (m : Option ℕ) (l : Line) (ls : Block) → is_blank l.text ≡ false → least_from m (l ∷ ls) ≡ least_from (Some (lower m (indentation l.text))) ls
unfolding least_from
least_from-dark m l ls e = rw e refl

pub least_from-none : (m : Option ℕ) → least_from m [] ≡ m
unfolding least_from
least_from-none m = refl

-- ---- characters that a text can hold

pub characters-places : (cs : List ℕ) → characters (places_of cs) ≡ cs
characters-places [] = refl
characters-places (c ∷ cs) = ap (λ l. c ∷ l) (cond_both (is_double c) (Second ∷ places_of cs) (places_of cs) (λ l. characters l ≡ cs) (λ e. characters-places cs) (λ e. characters-places cs))

-- a character of ASCII takes one place
is_double-ascii : (c : ℕ) → c < 128 → is_double c ≡ false
unfolding is_double char_width
is_double-ascii c low = grind (arith, nat_tests)

pub places-ascii : (cs : List ℕ) → IsAscii cs → places_of cs ≡ map Character cs
places-ascii [] low = refl
places-ascii (c ∷ cs) low = rw (is_double-ascii c (low 0)) (ap (λ ps. Character c ∷ ps) (places-ascii cs (λ i. low (suc i))))

-- the characters at the first places are the first characters, and those after them the others
characters-take : (n : ℕ) (ps : List Place) → (m : ℕ) × (characters (take n ps) ≡ take m (characters ps))
characters-take zero ps = (0, refl)
characters-take (suc n) [] = (0, refl)
characters-take (suc n) (Character c ∷ ps) = let rest = characters-take n ps in (suc rest.0, ap (λ l. c ∷ l) rest.1)
characters-take (suc n) (Second ∷ ps) = characters-take n ps

characters-drop : (n : ℕ) (ps : List Place) → (m : ℕ) × (characters (drop n ps) ≡ drop m (characters ps))
characters-drop zero ps = (0, refl)
characters-drop (suc n) [] = (0, refl)
characters-drop (suc n) (Character c ∷ ps) = let rest = characters-drop n ps in (suc rest.0, rest.1)
characters-drop (suc n) (Second ∷ ps) = characters-drop n ps

-- what holds of each front and each rest of a text holds of the characters between two places
pub cut-keeps : (P : List ℕ → Type 0) → ((n : ℕ) (cs : List ℕ) → P cs → P (take n cs)) → ((n : ℕ) (cs : List ℕ) → P cs → P (drop n cs))
    → (left : ℕ) (right : Option ℕ) (ps : List Place) → P (characters ps) → P (characters (cut_places left right ps))
cut-keeps P prefixes rests left (Some right) ps h =
    let prefix = characters-take (right - left) (drop left ps) in
    let rest = characters-drop left ps in
    subst P (sym prefix.1) (prefixes prefix.0 (characters (drop left ps)) (subst P (sym rest.1) (rests rest.0 (characters ps) h)))
cut-keeps P prefixes rests left None ps h = let rest = characters-drop left ps in subst P (sym rest.1) (rests rest.0 (characters ps) h)

-- ---- the text of a cell in a line

-- a text may be cut where it is trimmed
pub trimmed-cut : (bytes trimmed : List ℕ) → IsUtf8 bytes → IsUtf8 trimmed → IsTrimEnd bytes trimmed → IsSplitPoint bytes (length trimmed) × (take (length trimmed) bytes ≡ trimmed)
trimmed-cut bytes trimmed good fine is =
    let front : take (length trimmed) bytes ≡ trimmed = ap (λ n. take n bytes) is.4 ∙ sym is.1 in
    let between = IsCharBoundary-from_take bytes (length trimmed) good (omega (arith, is.4, is.5)) (subst IsUtf8 (sym front) fine) in
    ((between.0, λ _ inside. between.1 inside), front)

pub read_text : (left : ℕ) (right : Option ℕ) (row places : List Place) (bytes trimmed : List ℕ) → places ≡ cut_places left right row → AreOfLine row → bytes ≡ encode_utf8_all (characters places) → IsUtf8 trimmed → trimmed ≡ trim_end bytes
    → (chars trimmed ≡ drop_trailing_whitespace (characters (cut_places left right row))) × (is_line_text (chars trimmed) ≡ true)
read_text left right row places bytes trimmed cut of_line written good trims =
    let cs : List ℕ = characters (cut_places left right row) in
    let scalars : all_scalars cs ≡ true = cut-keeps (λ cs. all_scalars cs ≡ true) scalars-take scalars-drop left right row of_line.scalars in
    let unended = cut-keeps (λ cs. list_any is_line_end cs ≡ false) (λ n cs h. (none-parts is_line_end n cs h).0) (λ n cs h. (none-parts is_line_end n cs h).1) left right row of_line.unended in
    let text = chars-trim_end bytes trimmed good trims ∙ ap drop_trailing_whitespace (ap chars (written ∙ ap (λ ps. encode_utf8_all (characters ps)) cut) ∙ chars-encodes cs scalars) in
    (text, ap is_line_text text ∙ is_line_text-trimmed cs unended)
