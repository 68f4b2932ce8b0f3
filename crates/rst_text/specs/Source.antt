-- Lines of which most are empty. No rule of markup: only their texts are given, with their places.
use Rattle.std.specs.Prelude.{◌≡◌, ℕ, ◌+◌, ◌≤◌, ◌<◌, ◌^◌, ◌==◌, IsTrue, List, [], ◌∷◌, map, length, Option, Some, None, option_map, unwrap_or}
use Rattle.std.specs.List.{find, range_with_len, zip}
use Rattle.std.specs.declared.string.String.{String}
use Rattle.std.specs.declared.vec.Vec.{Vec}
use Rattle.rst_settings.specs.declared.Parts.{Parts}
use Rattle.rst_text.specs.Block.{Block}
use Rattle.rst_text.specs.Lines.{numbered_from, is_line_text, are_lines}
use Rattle.rst_text.specs.MayCut.{are_texts}
use Rattle.rst_text.specs.Text.{chars_of}

-- the characters of texts with their places
abbrev pub texts_with : {A : Type 0} → List (ℕ × String A) → List (ℕ × List ℕ)
texts_with texts = map (λ t. (t.0, chars_of t.1)) texts

-- the text at a place, empty where none is given
abbrev pub placed_text : List (ℕ × List ℕ) → ℕ → List ℕ
placed_text texts place = unwrap_or (option_map (λ (t : ℕ × List ℕ). t.1) (find (λ (t : ℕ × List ℕ). t.0 == place) texts)) []

-- a number of lines, numbered from a given number on: empty but for the texts that are given, with their places from 0
abbrev pub spread : Parts → ℕ → ℕ → List (ℕ × List ℕ) → Block
spread parts first count texts = map (λ place. record { number = first + place; text = placed_text texts place; parts = parts }) (range_with_len 0 count)

-- texts that can occur in lines, at places that rise: the first is no less than a place, and the last below another
abbrev pub ArePlaced : ℕ → ℕ → List (ℕ × List ℕ) → Type 0
ArePlaced from to [] = from ≤ to
ArePlaced from to (t ∷ ts) = (from ≤ t.0) × IsTrue (is_line_text t.1) × ArePlaced (t.0 + 1) to ts

-- The lines of the texts that are kept: each line has one, or those have one whose places are given.
abbrev pub kept_lines : {A : Type 0} → Parts → ℕ → ℕ → List (List ℕ) → Option (Vec ℕ A) → Block
kept_lines parts first count kept None = numbered_from parts first kept
kept_lines parts first count kept (Some places) = spread parts first count (zip places.items kept)

-- as many texts are kept as lines, or as places, and those can be the places of lines
abbrev pub AreKept : {A : Type 0} → ℕ → List (List ℕ) → Option (Vec ℕ A) → Type 0
AreKept count kept None = length kept ≡ count
AreKept count kept (Some places) = (length kept ≡ length places.items) × ArePlaced 0 count (zip places.items kept)

-- what is known of lines that are kept so
pub record HoldsLines {A : Type 0} (parts : Parts) (first count : ℕ) (kept : List (List ℕ)) (places : Option (Vec ℕ A)) : Type 0 where
  pub kept_so : AreKept count kept places
  pub few : count < 2 ^ 63
  pub numbers : first + count ≤ 2 ^ 64
  pub of_lines : IsTrue (are_lines (kept_lines parts first count kept places))
  pub of_texts : IsTrue (are_texts (kept_lines parts first count kept places))
