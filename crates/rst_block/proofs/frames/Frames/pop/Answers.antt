use Rattle.std.proofs.Common.{◌++◌, ◌∷◌, [], length, arith, ap, ◌∙◌}
use Rattle.rst_block.proofs.Places.{took, no_gap}
use Rattle.rst_block.proofs.frames.Frames.pop.Goals as goal

pub invariant_of-self-in_err-branch : goal.invariant_of-self-in_err-branch
invariant_of-self-in_err-branch c = no_gap c.pop.new.self.items c.self.inside.places.items (c.in_ok-pop.ensures.items ∙ ap (λ p. c.pop.new.self.items ++ p ∷ []) c.in_err-branch.was) c.self.invariant

pub returns-in_err-branch-clause-none : goal.returns-in_err-branch-clause-none
returns-in_err-branch-clause-none c = no_gap c.pop.new.self.items c.self.inside.places.items (c.in_ok-pop.ensures.items ∙ ap (λ p. c.pop.new.self.items ++ p ∷ []) c.in_err-branch.was) c.self.invariant

pub invariant_of-self-2 : goal.invariant_of-self-2
invariant_of-self-2 c = (took c.pop.new.self.items c.self.inside.places.items c.in_ok-branch.field-0 (c.in_ok-pop.ensures.items ∙ ap (λ p. c.pop.new.self.items ++ p ∷ []) c.in_ok-branch.was) c.self.invariant).1

pub returns-clause-some : goal.returns-clause-some
returns-clause-some c =
    rw (← c.self.view_is, c.into_inner.ensures) (
      (took c.pop.new.self.items c.self.inside.places.items c.in_ok-branch.field-0 (c.in_ok-pop.ensures.items ∙ ap (λ p. c.pop.new.self.items ++ p ∷ []) c.in_ok-branch.was) c.self.invariant).0,
      omega (arith, ap length c.self.view_is, c.requires, c.len.ensures.value, c.self.invariant, c.if-len-base.false),
    )
