-- What a quiet text means: one text as it is written.
use Rattle.std.proofs.Common.{◌≡◌, ℕ, ◌++◌, [], ◌∷◌, true, length, refl, sym, ap, ◌∙◌, arith}
use Rattle.std.proofs.lemmas.List.{take_all}
use Rattle.rst_settings.specs.declared.Parts.{Parts}
use Rattle.rst_tree.specs.Nodes.{nodes_of}
use Rattle.rst_text.specs.Characters.{Text}
use Rattle.rst_text.specs.Escapes.{unescaped}
use Rattle.rst_inline_scan.specs.Pieces.{plain_from}
use Rattle.rst_inline_scan.specs.Quiet.{quiet}
use Rattle.rst_inline_scan.specs.declared.piece.Piece.{Piece}
use Rattle.rst_text.proofs.EscapeLemmas.{unescaped-plain}
use Rattle.rst_inline_scan.proofs.QuietLemmas.{whole, quiet-pieces, quiet-plain}
use Rattle.rst_inline.specs.declared.nodes.Pieces.{Pieces}
use Rattle.rst_inline.specs.Elements.{text_children}
use Rattle.rst_inline.specs.Parts.{source}
use Rattle.rst_inline.specs.Readings.{plain_reading, reading}
use Rattle.rst_inline.specs.Results.{nodes_by, notes_by, notes_of, nodes_from, IsRead}

-- the piece that is all of a text
abbrev all_of : Text → Piece
all_of t = plain_from 0 (length t)

-- it means the text itself
reading-all : (parts : Parts) (t : Text) (line : ℕ) → quiet parts.mail t ≡ true → reading parts t line (all_of t) ≡ plain_reading t
unfolding reading
reading-all parts t line h =
    let written : source t (all_of t) ≡ t = take_all (length t) t (omega arith) in
    ap plain_reading (ap unescaped written ∙ unescaped-plain t (quiet-plain parts.mail t h))

pub quiet-nodes : (parts : Parts) (t : Text) (line first : ℕ) → quiet parts.mail t ≡ true → nodes_of (text_children t) ≡ nodes_from parts t line first (whole t)
quiet-nodes parts [] line first h = refl
quiet-nodes parts (c ∷ cs) line first h = sym (ap (λ m. nodes_by m first (source (c ∷ cs) (all_of (c ∷ cs))) line ++ []) (reading-all parts (c ∷ cs) line h))

quiet-notes : (parts : Parts) (t : Text) (line : ℕ) → quiet parts.mail t ≡ true → [] ≡ notes_of parts t line (whole t)
quiet-notes parts [] line h = refl
quiet-notes parts (c ∷ cs) line h = sym (ap (λ m. notes_by m line ++ []) (reading-all parts (c ∷ cs) line h))

-- what was read of a quiet text
pub quiet-read : (parts : Parts) (t : Text) (line first : ℕ) (read : Pieces) → quiet parts.mail t ≡ true → read.nodes.items ≡ nodes_of (text_children t) → read.notes.items ≡ [] → IsRead parts t line first read
quiet-read parts t line first read h nodes notes =
    (whole t, quiet-pieces parts.mail parts.unmarked t h, record { nodes = nodes ∙ quiet-nodes parts t line first h; notes = notes ∙ quiet-notes parts t line h })
