-- Lines that are numbered one after another.
use Rattle.std.proofs.Common.{◌≡◌, ℕ, zero, suc, ◌+◌, ◌<◌, true, List, [], ◌∷◌, length, get_or, drop, refl, ap, arith}
use Rattle.std.specs.List.{list_all}
use Rattle.rst_settings.specs.declared.Parts.{Parts}
use Rattle.rst_text.specs.Block.{first_text, first_number, first_parts}
use Rattle.rst_text.specs.Lines.{numbered_from}
use Rattle.rst_text.specs.MayCut.{is_text, are_texts}
use Rattle.std.proofs.lemmas.Bool.{and_parts}

pub length-numbered : (parts : Parts) (n : ℕ) (ts : List (List ℕ)) → length (numbered_from parts n ts) ≡ length ts
length-numbered parts n [] = refl
length-numbered parts n (t ∷ ts) = ap suc (length-numbered parts (n + 1) ts)

pub first_text-numbered : (parts : Parts) (n i : ℕ) (ts : List (List ℕ)) → first_text (drop i (numbered_from parts n ts)) ≡ get_or ts i []
first_text-numbered parts n zero [] = refl
first_text-numbered parts n zero (t ∷ ts) = refl
first_text-numbered parts n (suc i) [] = refl
first_text-numbered parts n (suc i) (t ∷ ts) = first_text-numbered parts (n + 1) i ts

pub first_number-numbered : (parts : Parts) (n i : ℕ) (ts : List (List ℕ)) → i < length ts → first_number (drop i (numbered_from parts n ts)) ≡ n + i
first_number-numbered parts n i [] h = absurd (omega arith)
first_number-numbered parts n zero (t ∷ ts) h = omega arith
first_number-numbered parts n (suc i) (t ∷ ts) h = omega (arith, first_number-numbered parts (n + 1) i ts (omega arith))

pub first_parts-numbered : (parts : Parts) (n i : ℕ) (ts : List (List ℕ)) → i < length ts → first_parts (drop i (numbered_from parts n ts)) ≡ parts
first_parts-numbered parts n i [] h = absurd (omega arith)
first_parts-numbered parts n zero (t ∷ ts) h = refl
first_parts-numbered parts n (suc i) (t ∷ ts) h = first_parts-numbered parts (n + 1) i ts (omega arith)

pub texts-numbered : (parts : Parts) (n : ℕ) (ts : List (List ℕ)) → list_all is_text ts ≡ true → are_texts (numbered_from parts n ts) ≡ true
texts-numbered parts n [] h = refl
texts-numbered parts n (t ∷ ts) h =
    let e = and_parts (is_text t) (list_all is_text ts) h in rw (e.0, texts-numbered parts (n + 1) ts e.1) refl
