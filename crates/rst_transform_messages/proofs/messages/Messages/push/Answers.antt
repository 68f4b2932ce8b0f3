use Rattle.std.proofs.Common.{rules, refl, sym, ◌∙◌}
use Rattle.rst_transform_messages.proofs.Listing.{adds_none, adds_one}
use Rattle.rst_transform_messages.proofs.messages.Messages.push.Goals as goal

pub returns-then-self-clause-adds : goal.returns-then-self-clause-adds
returns-then-self-clause-adds c =
    adds_none c.args.self.now _ c.args.note c.args.number (refl, refl) (λ n. rw (c.is_reached.ensures, c.number-level.ensures) at c.in_ok-mark_reported.ensures n) refl
    (sym c.args.self.now.halted_is ∙ c.if-self.true)

pub returns-clause-adds : goal.returns-clause-adds
returns-clause-adds c =
    adds_one c.args.self.now _ c.args.note c.args.number (refl, refl) (λ n. rw (c.is_reached.ensures, c.number-level.ensures) at c.in_ok-mark_reported.ensures n) (search rules)
    (sym c.args.self.now.halted_is ∙ c.if-self.false)
