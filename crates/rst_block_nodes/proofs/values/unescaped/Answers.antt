use Rattle.std.proofs.Common.{◌∙◌, sym, ap}
use Rattle.std.specs.Prelude.{encode_utf8_all}
use Rattle.std.specs.Str.{chars}
use Rattle.std.proofs.lemmas.Str.{encodes-chars}
use Rattle.rst_text.specs.Escapes.{has_backslash}
use Rattle.rst_text.proofs.EscapeLemmas.{unescaped-plain}
use Rattle.rst_inline.proofs.WrittenLemmas.{plain-chars}
use Rattle.rst_block_nodes.proofs.values.unescaped.Goals as goal

pub returns-then-not-contains : goal.returns-then-not-contains
returns-then-not-contains c =
    let t = c.args.text.now in
    let bytes = sym (ap has_backslash c.as_bytes.ensures.value) ∙ sym c.contains.ensures.value ∙ c.if-not-contains.true in
    sym (encodes-chars t c.utf8.text) ∙ sym (ap encode_utf8_all (unescaped-plain (chars t) (plain-chars t c.utf8.text bytes)))
