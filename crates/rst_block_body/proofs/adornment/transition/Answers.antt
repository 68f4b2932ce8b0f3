use Rattle.std.proofs.Common.{◌≡◌, ◌+◌, arith, rules, refl}
use Rattle.rst_block_state.proofs.Changes.{moved_more}
use Rattle.rst_block_body.proofs.ReadLemmas.{alone_refused}
use Rattle.rst_block_body.proofs.TextsPaid.{flat_read, more_items}
use Rattle.rst_block_body.proofs.adornment.transition.Goals as goal

pub returns-in_err-close : goal.returns-in_err-close
returns-in_err-close c = alone_refused c.in_err-close.field-0.0 c.requires.found tt (search rules) c.in_err-close.ensures.closed

pub returns : goal.returns
returns c =
    let at : c.go_to.new.self.at ≡ c.args.level.now.at + 1 = c.go_to.ensures.there (omega (arith, c.close.ensures.at)) in
    flat_read c.requires.inside c.requires.found tt c.in_ok-close.ensures.closed (more_items _ (rw (c.element.ensures, c.number_at.ensures) refl) (moved_more c.go_to.ensures.moved at c.in_ok-push.ensures.more))
    (omega (arith, c.close.ensures.run)) (omega (arith, c.close.ensures.low))
