use Rattle.std.proofs.Common.{◌++◌, [], rules, sym, ap, ◌∙◌}
use Rattle.std.specs.Str.{chars}
use Rattle.std.proofs.lemmas.List.{append-nil}
use Rattle.std.proofs.lemmas.Option.{MatchOption-at_none}
use Rattle.rst_markup_directives.specs.Options.{choices_in}
use Rattle.rst_block_nodes.specs.Formulas.{formulas_from, holder_after, parts_of}
use Rattle.rst_block_nodes.proofs.FormulaLemmas.{last_part, next_part}
use Rattle.rst_block_nodes.proofs.formula.formulas.Goals as goal

pub loop-part-preserved : goal.loop-part-preserved
loop-part-preserved c =
    let ns = c.loop-part.nodes.items in
    let parted = next_part c.loop-part.rest.now c.in-Some.part.now c.in-Some.after.now c.loop-part.invariant.0 (search rules) c.in-Some.ensures.cases in (
      search rules,
      c.in_ok-add_formula.ensures (parts_of (chars c.in-Some.after.now))
          ∙ ap (λ ps. ns ++ formulas_from (holder_after ns) c.args.element (choices_in c.args.options.now) c.args.line ps) (sym parted) ∙ c.loop-part.invariant.1,
    )

pub returns : goal.returns
returns c =
    let ns = c.loop-part.nodes.items in
    let last = last_part c.loop-part.rest.now c.loop-part.invariant.0 (MatchOption-at_none _ _ c.in_default.is c.split_once.ensures.cases) in
    sym (append-nil c.add_formula-2.new.nodes.items) ∙ c.in_ok-add_formula-2.ensures []
    ∙ ap (λ ps. ns ++ formulas_from (holder_after ns) c.args.element (choices_in c.args.options.now) c.args.line ps) (sym last) ∙ c.loop-part.invariant.1
