use Rattle.std.proofs.Common.{◌≡◌, ◌∙◌, sym, rules, List, ℕ}
use Rattle.std.specs.Str.{chars}
use Rattle.rst_settings.specs.declared.Parts.{Parts}
use Rattle.rst_text.specs.Block.{Block, first_parts, first_text}
use Rattle.rst_markup_blocks.specs.Conditions.{next_text, after_text}
use Rattle.rst_markup_blocks.specs.Kinds.{first_kind, kind_at, later_kinds}
use Rattle.rst_markup_blocks.specs.declared.kind.Kind.{Kind}
use Rattle.rst_markup_blocks.proofs.KindRows.{kind_by, kind_at_is}
use Rattle.rst_markup_blocks.proofs.begun.begun_by.Goals as goal

by_row : (k : Kind) (X : Block) (parts : Parts) (text next after : List ℕ) → first_parts X ≡ parts → first_text X ≡ text → next_text X ≡ next → after_text X ≡ after → k ≡ kind_by parts text next after (first_kind later_kinds X) → k ≡ kind_at X
by_row k X parts text next after p a b d row = row ∙ sym (kind_at_is X parts text next after p a b d)

pub returns-then-begins_with-clause-kind : goal.returns-then-begins_with-clause-kind
returns-then-begins_with-clause-kind c = λ X p a b d. by_row _ X _ _ _ _ p a b d (search rules)

pub returns-in-Some-Some-clause-kind : goal.returns-in-Some-Some-clause-kind
returns-in-Some-Some-clause-kind c = λ X p a b d. by_row _ X _ _ _ _ p a b d (search rules)

pub returns-in-Some-clause-kind : goal.returns-in-Some-clause-kind
returns-in-Some-clause-kind c = λ X p a b d. by_row _ X _ _ _ _ p a b d (search rules)

pub returns-in-Some-field_of-clause-kind : goal.returns-in-Some-field_of-clause-kind
returns-in-Some-field_of-clause-kind c = λ X p a b d. by_row _ X _ _ _ _ p a b d (search rules)

pub returns-in-Some-item_option-clause-kind : goal.returns-in-Some-item_option-clause-kind
returns-in-Some-item_option-clause-kind c = λ X p a b d. by_row _ X _ _ _ _ p a b d (search rules)

pub returns-clause-kind : goal.returns-clause-kind
returns-clause-kind c = λ X p a b d.
    c.later_begun.ensures.kind X a ∙ by_row _ X _ _ _ _ p a b d (search rules)

pub returns-clause-mark : goal.returns-clause-mark
returns-clause-mark c = c.later_begun.ensures.mark c.args.parts.now (chars c.args.next.now) (chars c.args.after.now)
