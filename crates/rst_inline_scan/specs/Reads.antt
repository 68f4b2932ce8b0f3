-- The pieces of a text that is written out, for worked examples. No rule of markup.
use Prim.Native.String.{String}
use Rattle.std.specs.Prelude.{◌≡◌, Bool, false, true, List, map, take, drop, codes}
use Rattle.rst_text.specs.Characters.{Text}
use Rattle.rst_inline_scan.specs.Reading.{pieces_of}
use Rattle.rst_inline_scan.specs.declared.piece.Kind.{Kind}
use Rattle.rst_inline_scan.specs.declared.piece.Piece.{Piece}

-- the kind of a piece, and the piece as it is written
abbrev pub kind_and_source : Text → Piece → Kind × Text
kind_and_source t p = (p.kind, drop p.from (take p.to t))

-- a kind and a text that is written out
abbrev pub spelled_cut : Kind × String → Kind × Text
spelled_cut (kind, text) = (kind, codes text)

-- the text falls into these pieces
abbrev pub CutsBy : Bool → Bool → String → List (Kind × String) → Type 0
CutsBy mail registered text cuts = map (kind_and_source (codes text)) (pieces_of mail registered (codes text)) ≡ map spelled_cut cuts

-- so it does by the base
abbrev pub Cuts : String → List (Kind × String) → Type 0
Cuts text cuts = CutsBy false false text cuts

-- so it does where addresses are asked for
abbrev pub CutsMail : String → List (Kind × String) → Type 0
CutsMail text cuts = CutsBy true false text cuts

-- so it does by the wider profile
abbrev pub CutsWider : String → List (Kind × String) → Type 0
CutsWider text cuts = CutsBy true true text cuts

-- what the markup of each piece encloses
abbrev pub contents : String → List Text
contents text = map (λ p. drop p.content_from (take p.content_to (codes text))) (pieces_of false false (codes text))
