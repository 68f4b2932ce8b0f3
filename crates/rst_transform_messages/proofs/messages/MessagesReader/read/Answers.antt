use Rattle.std.proofs.Common.{◌≡◌, ◌∙◌, None, refl, rules, subst, sym, ap, Some}
use Rattle.std.specs.Prelude.{◌||◌}
use Rattle.rst_transform_messages.specs.Listed.{TakesMessage}
use Rattle.rst_transform_messages.proofs.Listing.{takes_message_in}
use Rattle.rst_transform_messages.proofs.messages.MessagesReader.read.Goals as goal

pub returns-in_ok-push_message : goal.returns-in_ok-push_message
returns-in_ok-push_message c =
    let none : c.args.level ≡ None = search rules in
    subst (λ level. TakesMessage c.args.self.now level c.args.element.now c.push_message.new.self (Some 0)) (sym none)
    (takes_message_in c.args.self.now (record c.args.self.now { early = c.args.self.now.early || c.is_early.result; halted_is = c.self-1.given.0; ends = c.self-1.given.1.0 }) c.push_message.new.self c.args.element.now c.in-Element.tag c.in-Element.attrs c.in-Element.children c.in-Element.line c.in-Element.is
    (sym c.is_message.ensures ∙ c.if-not-is_message.false) (ap (λ e. c.args.self.now.early || e) c.is_early.ensures) refl refl refl refl c.push_message.ensures.keeps c.in_ok-push_message.ensures.adds)
