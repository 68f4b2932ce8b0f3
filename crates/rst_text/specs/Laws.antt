-- Laws, which a reader of the definitions may pass over. No rule of markup: they follow from the definitions.
use Rattle.std.specs.Prelude.{◌≡◌, ℕ, ◌+◌, ◌≤◌, ◌-◌, ◌==◌, if◌then◌else◌, List}
use Rattle.unicode_normalization.specs.Forms.{nfkd}
use Rattle.rst_text.specs.Block.{Block, cut}
use Rattle.rst_text.specs.Names.{id_of, identifier_of, name_of}

-- A cut of a cut is one cut of the block: its places are those of the inner cut, counted from the outer one's first
-- line, and each line loses both cuts.
abbrev pub CutsCompose : Type 0
CutsCompose = (B : Block) (i j f r k m g s : ℕ) → k ≤ m → m ≤ j - i
    → cut (cut B i j f r) k m g s ≡ cut B (i + k) (i + m) ((if k == 0 then f else r) + g) (r + s)

-- An id is made of the decomposed name, whether the name is in ASCII or not.
abbrev pub IdsAreDecomposed : Type 0
IdsAreDecomposed = (text : List ℕ) → id_of text ≡ identifier_of (nfkd (name_of text))
