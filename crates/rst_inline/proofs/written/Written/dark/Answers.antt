use Rattle.std.proofs.Common.{rules, tests, ◌≡◌, ◌∙◌, false, IfOk, sym, ap, subst}
use Rattle.std.specs.Cow.{cow_str_bytes}
use Rattle.std.specs.List.{list_any}
use Rattle.std.specs.Str.{chars}
use Rattle.std.proofs.lemmas.Iterator.{YieldsList-from_slice}
use Rattle.std.proofs.lemmas.Iterator.Search.{any_from_yields_List}
use Rattle.rst_text.specs.Characters.{is_white, Text}
use Rattle.rst_inline.specs.Parts.{part}
use Rattle.rst_inline.proofs.EmbeddedLemmas.{dark-unescaped}
use Rattle.rst_inline.proofs.written.Written.dark.Goals as goal

pub returns-then-not-any : goal.returns-then-not-any
returns-then-not-any c =
    let t = c.args.self.now.characters.items in
    let u = part t c.args.low c.args.high in
    let written = c.part-written.ensures ∙ ap (λ (t : Text). part t c.args.low c.args.high) c.deref.ensures.value in
    let dark : list_any is_white u ≡ false = ap (list_any is_white) (sym written) ∙ sym (any_from_yields_List is_white c.any.new.self _ c.any.result c.any.ensures.ran (YieldsList-from_slice c.part-written.result.now cc) (λ x b q k. search (rules, tests))) ∙ c.if-not-any.true in
    subst (λ m. IfOk c.unescaped.result (λ dark. chars (cow_str_bytes dark) ≡ m)) (dark-unescaped u dark) c.unescaped.ensures
