use Rattle.std.proofs.Common.{◌∙◌, sym, ap}
use Rattle.std.proofs.lemmas.List.{map-id}
use Rattle.rst_text.specs.Source.{texts_with}
use Rattle.rst_markup_tables.proofs.Texts.{drop_each}
use Rattle.rst_markup_tables.proofs.cells.shortened.Goals as goal

pub returns-then-n-eq0 : goal.returns-then-n-eq0
returns-then-n-eq0 c =
    let texts = texts_with c.args.texts.items in
    sym (map-id texts) ∙ ap (λ n. drop_each n texts) (sym c.if-n-eq0.true)
