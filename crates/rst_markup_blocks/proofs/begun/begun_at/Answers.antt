use Rattle.std.proofs.Common.{◌≡◌, true, None, drop, sym, rules, ◌∙◌}
use Rattle.std.specs.Char.{is_ascii_alphabetic}
use Rattle.std.specs.Str.{chars}
use Rattle.rst_text.specs.Block.{Block}
use Rattle.rst_text.specs.ViewBlock.{block_of}
use Rattle.rst_markup_lines.specs.Enumerator.{enumerator_of}
use Rattle.rst_markup_lines.specs.TextStart.{begins_by}
use Rattle.rst_markup_blocks.proofs.KindRows.{begun_of, blank_at, letter_kind}
use Rattle.rst_markup_blocks.proofs.begun.begun_at.Goals as goal

pub returns-then-is_blank-clause-begun : goal.returns-then-is_blank-clause-begun
returns-then-is_blank-clause-begun c =
    blank_at (drop c.args.at (block_of c.args.view.now)) (chars c.line-text.result.now) (sym c.line-text.ensures.text) (sym c.is_blank.ensures ∙ c.if-is_blank.true)

pub returns-then-is_none-clause-begun : goal.returns-then-is_none-clause-begun
returns-then-is_none-clause-begun c =
    let text = chars c.line-text.result.now in
    let letter : begins_by is_ascii_alphabetic text ≡ true = search rules in
    let none : enumerator_of text ≡ None = search rules in
    record { kind = sym (letter_kind (drop c.args.at (block_of c.args.view.now)) text letter none (sym c.line-text.ensures.text)); mark = tt }

pub returns-clause-begun : goal.returns-clause-begun
returns-clause-begun c =
    let X : Block = drop c.args.at (block_of c.args.view.now) in
    let parts = sym c.parts.ensures.value in
    let first_line = sym c.line-text.ensures.text in
    let next = sym c.below_text-next.ensures.text in
    let after = sym c.below_text-after.ensures.text in
    begun_of X c.parts.result.now (chars c.line-text.result.now) (chars c.below_text-next.result.now) (chars c.below_text-after.result.now) c.begun_by.result parts first_line next after
    (c.begun_by.ensures.kind X parts first_line next after) c.begun_by.ensures.mark
