use Rattle.std.proofs.Common.{◌≡◌, ◌∙◌, Err, Some, sym, ap}
use Rattle.std.specs.Str.{chars}
use Rattle.rst_text.specs.Text.{text_of}
use Rattle.rst2pseudoxml_run.specs.Reading.{held}
use Rattle.rst2pseudoxml_run.proofs.DocumentLemmas.{read_short}
use Rattle.rst2pseudoxml_run.proofs.document.parsed_of.Goals as goal

pub returns-in-Ok-parse : goal.returns-in-Ok-parse
returns-in-Ok-parse c =
    let settings = c.args.settings.now in
    let is : text_of c.args.bytes.items ≡ Some (chars c.in-Ok.text.now) = sym (ap text_of c.as_slice.ensures.value) ∙ c.in-Ok.ensures in
    let holds : c.held_in-held.result ≡ held settings (text_of c.args.bytes.items) = c.held_in-held.ensures ∙ sym (ap (held settings) is) in
    (holds, read_short settings c.args.bytes.items _ c.held_in-held.result c.in-Ok-within.lines _ is holds c.in-Ok-within.ensures.0 c.in-Ok-within.ensures.1 (c.in-Ok-parse.ensures.tree settings))

pub returns-in-Err-TooDeep : goal.returns-in-Err-TooDeep
returns-in-Err-TooDeep c =
    let settings = c.args.settings.now in
    let is : text_of c.args.bytes.items ≡ Some (chars c.in-Ok.text.now) = sym (ap text_of c.as_slice.ensures.value) ∙ c.in-Ok.ensures in
    let holds : c.held_in-held.result ≡ held settings (text_of c.args.bytes.items) = c.held_in-held.ensures ∙ sym (ap (held settings) is) in
    let deep = c.in-Err-TooDeep.ensures.tree settings in
    rw c.in-Err-TooDeep.field-0-is
    (read_short settings c.args.bytes.items _ c.held_in-held.result c.in-Ok-within.lines (Err c.in-Err-TooDeep.line) is holds c.in-Ok-within.ensures.0 c.in-Ok-within.ensures.1 (rw c.in-Err-TooDeep.field-0-is at deep))
