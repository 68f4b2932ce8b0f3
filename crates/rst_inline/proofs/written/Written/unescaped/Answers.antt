use Rattle.std.proofs.Common.{◌≡◌, false, ◌∙◌, sym}
use Rattle.rst_text.proofs.EscapeLemmas.{unescaped-plain}
use Rattle.rst_inline.specs.Parts.{part}
use Rattle.rst_inline.proofs.WrittenLemmas.{plain-part}
use Rattle.rst_inline.proofs.written.Written.unescaped.Goals as goal

pub returns-then-not-self : goal.returns-then-not-self
returns-then-not-self c =
    let w = c.args.self.now in
    let t = w.characters.items in
    let none : w.escapes ≡ false = cc in
    c.part.ensures ∙ sym (unescaped-plain (part t c.args.low c.args.high) (plain-part t c.args.low c.args.high (w.plain none)))
