use Rattle.std.proofs.Common.{get_or, [], ◌∙◌, ◌<◌, length, sym, ap, arith, string_bytes}
use Rattle.std.proofs.lemmas.Bool.{eqb-true}
use Rattle.rst_settings.specs.Parts.{no_parts}
use Rattle.rst_text.proofs.KeptLemmas.{empty-between, length_texts, start-is}
use Rattle.rst_text.proofs.NumberedLemmas.{first_text-numbered}
use Rattle.rst_text.proofs.kept.Kept.are_empty.Goals as goal

pub index-requires : goal.index-requires
index-requires c = omega (arith, c.requires.some, c.requires.within, ap length c.self.view_is, length_texts (string_bytes c.self.inside.text) c.self.inside.starts.items c.self.invariant, c.self.inside.starts.ok)

pub index-requires-2 : goal.index-requires-2
index-requires-2 c = omega (arith, c.requires.within, ap length c.self.view_is, length_texts (string_bytes c.self.inside.text) c.self.inside.starts.items c.self.invariant, c.self.inside.starts.ok)

pub returns : goal.returns
returns c = λ same k low high.
    let within : c.args.end < length c.self.inside.starts.items = omega (arith, c.requires.within, ap length c.self.view_is, length_texts (string_bytes c.self.inside.text) c.self.inside.starts.items c.self.invariant) in
    let first = start-is c.args.i _ _ (omega (arith, within, c.requires.some)) c.index.ensures in
    let last = start-is c.args.end _ _ within c.index-2.ensures in
    first_text-numbered no_parts 0 k _ ∙ sym (ap (λ ts. get_or ts k []) c.self.view_is)
    ∙ empty-between _ _ c.args.i c.args.end c.self.invariant within (sym first ∙ eqb-true _ _ same ∙ last) k low high
