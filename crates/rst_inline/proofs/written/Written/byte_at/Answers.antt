use Rattle.std.proofs.Common.{◌<◌, ◌∙◌, sym, arith, vec_len}
use Rattle.std.proofs.lemmas.Bool.{eqb-true, eqb-false}
use Rattle.rst_inline.proofs.WrittenLemmas.{byte-ascii, byte-start, start-within}
use Rattle.rst_inline.proofs.written.Written.byte_at.Goals as goal

pub index-requires : goal.index-requires
index-requires c =
    let w = c.args.self.now in
    let some : 0 < vec_len w.starts = omega (arith, eqb-false (vec_len w.starts) 0 (sym c.is_empty.ensures ∙ c.if-is_empty.false)) in
    omega (arith, start-within w.characters.items w.starts.items c.args.place (w.begun some) c.requires, w.starts.ok.0)

pub returns-then-is_empty : goal.returns-then-is_empty
returns-then-is_empty c =
    let w = c.args.self.now in
    byte-ascii w.characters.items c.args.place (w.ascii (eqb-true (vec_len w.starts) 0 (sym c.is_empty.ensures ∙ c.if-is_empty.true))) c.requires

pub returns-else-is_empty : goal.returns-else-is_empty
returns-else-is_empty c =
    let w = c.args.self.now in
    let some : 0 < vec_len w.starts = omega (arith, eqb-false (vec_len w.starts) 0 (sym c.is_empty.ensures ∙ c.if-is_empty.false)) in
    c.index.ensures ∙ byte-start w.characters.items w.starts.items c.args.place c.index.result.now (w.begun some) c.requires
