use Rattle.std.proofs.Common.{rules, ap, ◌∙◌, length-drop, sym, drop, arith}
use Rattle.std.specs.Str.{chars}
use Rattle.rst_text.specs.Block.{Block}
use Rattle.rst_text.specs.Reach.{reach}
use Rattle.rst_text.specs.ViewBlock.{block_of}
use Rattle.rst_text.proofs.LinesLemmas.{length-chars}
use Rattle.rst_markup_blocks.specs.declared.explicit_markup.ExplicitForm.TheVariants.{Label, Target, Substitution, Directive}
use Rattle.rst_markup_blocks.proofs.ExplicitLemmas.{form_within_at, target_short, indented_some, form_lines}
use Rattle.rst_markup_blocks.proofs.extents.explicit_by.Goals as goal

pub label_with-requires : goal.label_with-requires
label_with-requires c =
    let w = form_within_at _ (Label c.in-Label.mark) (sym c.in-Label.is ∙ c.requires.form) in
    search (rules, w.0, w.1, length-drop c.args.marker.cut (chars c.args.text.now), length-chars c.args.text.now c.utf8.text)

pub target_with-requires-clause-mark : goal.target_with-requires-clause-mark
target_with-requires-clause-mark c =
    let w = form_within_at _ (Target c.in-Target.mark) (sym c.in-Target.is ∙ c.requires.form) in
    target_short c.args.marker.cut (chars c.args.text.now) c.in-Target.mark w c.requires.marker (omega (arith, length-chars c.args.text.now c.utf8.text))

pub overflow_add-n : goal.overflow_add-n
overflow_add-n c =
    let w = form_within_at _ (Substitution c.in-Substitution.len c.in-Substitution.marker) (sym c.in-Substitution.is ∙ c.requires.form) in
    omega (arith, w.0, w.1, length-drop c.args.marker.cut (chars c.args.text.now), length-chars c.args.text.now c.utf8.text)

pub place_of-requires : goal.place_of-requires
place_of-requires c =
    let w = form_within_at _ (Substitution c.in-Substitution.len c.in-Substitution.marker) (sym c.in-Substitution.is ∙ c.requires.form) in
    omega (arith, w.0, w.1, length-drop c.args.marker.cut (chars c.args.text.now), length-chars c.args.text.now c.utf8.text)

pub overflow_add-n-in-Substitution : goal.overflow_add-n-in-Substitution
overflow_add-n-in-Substitution c =
    let w = form_within_at _ (Substitution c.in-Substitution.len c.in-Substitution.marker) (sym c.in-Substitution.is ∙ c.requires.form) in
    omega (arith, w.0, w.1, length-drop c.args.marker.cut (chars c.args.text.now), length-chars c.args.text.now c.utf8.text)

pub substitution_with-requires-clause-within_text : goal.substitution_with-requires-clause-within_text
substitution_with-requires-clause-within_text c =
    let w = form_within_at _ (Substitution c.in-Substitution.len c.in-Substitution.marker) (sym c.in-Substitution.is ∙ c.requires.form) in
    omega (arith, w.0, w.1, length-drop c.args.marker.cut (chars c.args.text.now), length-chars c.args.text.now c.utf8.text)

pub call_of-requires : goal.call_of-requires
call_of-requires c =
    let w = form_within_at _ (Directive c.in-Directive.mark) (sym c.in-Directive.is ∙ c.requires.form) in
    search (rules, w.0, w.1, length-drop c.args.marker.cut (chars c.args.text.now), length-chars c.args.text.now c.utf8.text)

pub returns-in-Label-clause-looked : goal.returns-in-Label-clause-looked
returns-in-Label-clause-looked c =
    let X : Block = drop c.args.i (block_of c.args.view.now) in
    let size = form_lines _ _ c.args.marker X c.in-Label.is in
    search (arith, size, ap (λ k. reach k X) size)

pub returns-in-Target-clause-looked : goal.returns-in-Target-clause-looked
returns-in-Target-clause-looked c =
    let X : Block = drop c.args.i (block_of c.args.view.now) in
    let size = form_lines _ _ c.args.marker X c.in-Target.is in
    search (arith, indented_some X, size, ap (λ k. reach k X) size)

pub returns-in-Substitution-clause-looked : goal.returns-in-Substitution-clause-looked
returns-in-Substitution-clause-looked c =
    let X : Block = drop c.args.i (block_of c.args.view.now) in
    let size = form_lines _ _ c.args.marker X c.in-Substitution.is in
    search (arith, size, ap (λ k. reach k X) size)

pub returns-in-Directive-clause-looked : goal.returns-in-Directive-clause-looked
returns-in-Directive-clause-looked c =
    let X : Block = drop c.args.i (block_of c.args.view.now) in
    let size = form_lines _ _ c.args.marker X c.in-Directive.is in
    search (arith, size, ap (λ k. reach k X) size)

pub returns-in-Comment-clause-looked : goal.returns-in-Comment-clause-looked
returns-in-Comment-clause-looked c =
    let X : Block = drop c.args.i (block_of c.args.view.now) in
    let size = form_lines _ _ c.args.marker X c.in-Comment.is in
    search (arith, size, ap (λ k. reach k X) size)
