use Rattle.std.proofs.Common.{◌∙◌, ◌<◌, ◌^◌, length, sym, ap, arith, string_bytes}
use Rattle.std.proofs.lemmas.Str.{IsUtf8-string_bytes}
use Rattle.std.specs.List.{list_all}
use Rattle.rst_text.specs.MayCut.{is_text}
use Rattle.rst_text.proofs.KeptLemmas.{texts-of_starts}
use Rattle.rst_text.proofs.kept.Kept.len.Goals as goal

pub returns-clause-texts : goal.returns-clause-texts
returns-clause-texts c =
    let t = c.self.inside.text in
    let few : length (string_bytes t) < 2 ^ 63 = omega (arith, t.bytes.ok, t.bytes.small) in
    sym (ap (list_all is_text) c.self.view_is) ∙ texts-of_starts (string_bytes t) c.self.inside.starts.items (IsUtf8-string_bytes t) few c.self.invariant
