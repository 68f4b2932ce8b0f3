use Rattle.std.proofs.Common.{◌∙◌, sym, vec_len}
use Rattle.std.proofs.lemmas.Bool.{eqb-true}
use Rattle.std.proofs.lemmas.Str.{encodes-IsAscii}
use Rattle.rst_inline.proofs.written.Written.pieces.Goals as goal

pub pieces_of_ascii-requires : goal.pieces_of_ascii-requires
pieces_of_ascii-requires c =
    let w = c.args.self.now in
    let ascii = w.ascii (eqb-true (vec_len w.starts) 0 (sym c.is_empty.ensures ∙ c.if-is_empty.true)) in
    c.as_bytes.ensures.value ∙ w.text_bytes ∙ encodes-IsAscii w.characters.items ascii ∙ sym c.deref.ensures.value
