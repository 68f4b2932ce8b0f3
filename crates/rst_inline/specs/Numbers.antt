-- References by the number of a document (Docutils, 'Interpreted Text Roles', 'pep-reference', 'rfc-reference').
use Rattle.std.specs.Prelude.{ℕ, ◌-◌, Bool, not, ◌&&◌, ◌==◌, nat_le, nat_lt, List, ◌++◌, length, take, drop, codes, if◌then◌else◌}
use Rattle.std.specs.List.{list_all, prefix_len}
use Rattle.rst_text.specs.Characters.{Text}
use Rattle.rst_tree.specs.declared.note.Level.TheVariants.{Error}
use Rattle.rst_inline.specs.declared.reading.Meaning.{Meaning}
use Rattle.rst_inline.specs.declared.reading.Meaning.TheVariants.{One, Wrong}
use Rattle.rst_inline.specs.Elements.{is_digit, link_node}
use Rattle.rst_inline.specs.Parts.{text_bytes}

-- a number without the zeros that it begins with: nothing is left of 0
abbrev pub without_zeros : Text → Text
without_zeros t = drop (prefix_len (λ c. c == 48) t) t

-- a text that is no number of a document, which gives an error
abbrev pub wrong_number : List ℕ → Text → Meaning
wrong_number expected t = Wrong Error (expected ++ codes "; \"" ++ text_bytes t ++ codes "\" is invalid.")

-- ---- Python Enhancement Proposals

-- a number of one digit or more, up to 9999
abbrev pub is_pep : Text → Bool
is_pep t = nat_lt 0 (length t) && (list_all is_digit t && nat_le (length (without_zeros t)) 4)

-- where the proposal is: its number has four digits there
abbrev pub pep_uri : Text → Text
pep_uri t = codes "https://peps.python.org/pep-" ++ take (4 - length (without_zeros t)) (codes "0000") ++ without_zeros t

-- a reference to a proposal
abbrev pub pep_reading : Text → Text → ℕ → Meaning
pep_reading source t line =
    if is_pep t then One (link_node source (pep_uri t) (codes "PEP " ++ t) line)
    else wrong_number (codes "PEP number must be a number from 0 to 9999") t

-- ---- Requests for Comments

-- the place of the first `#`, or the end of the text
abbrev pub fragment_start : Text → ℕ
fragment_start t = prefix_len (λ c. not (c == 35)) t

-- what precedes it, without zeros
abbrev pub rfc_number : Text → Text
rfc_number t = without_zeros (take (fragment_start t) t)

-- the `#` and what follows it, which name a place in the document
abbrev pub fragment : Text → Text
fragment t = drop (fragment_start t) t

-- a number from 1 on
abbrev pub is_rfc : Text → Bool
is_rfc t = nat_lt 0 (length (rfc_number t)) && list_all is_digit (rfc_number t)

-- where the document is
abbrev pub rfc_uri : Text → Text
rfc_uri t = codes "https://tools.ietf.org/html/rfc" ++ rfc_number t ++ codes ".html" ++ fragment t

-- a reference to a document
abbrev pub rfc_reading : Text → Text → ℕ → Meaning
rfc_reading source t line =
    if is_rfc t then One (link_node source (rfc_uri t) (codes "RFC " ++ rfc_number t) line)
    else wrong_number (codes "RFC number must be a number greater than or equal to 1") t
