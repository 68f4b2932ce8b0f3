use Rattle.std.proofs.Common.{◌-◌, ◌∙◌, ap, arith, rules}
use Rattle.rst_transform_substitutions.specs.Definitions.{found_by}
use Rattle.rst_transform_substitutions.specs.Expansion.{expanded_copies, given, most_visited, remaining_visits}
use Rattle.rst_transform_substitutions.specs.Sizes.{content_last, Ends, Fits}
use Rattle.std.specs.Prelude.{Some, Ok}
use Rattle.rst_transform_substitutions.proofs.Sizing.{fault_is}
use Rattle.rst_transform_substitutions.proofs.expansion.find_fault.Goals as goal

pub loop-step-init : goal.loop-step-init
loop-step-init c = record {
  fails = λ fault is. rw (c.in_ok-progress.ensures.0) at (c.in_ok-entered.ensures.content most_visited) ∙ (rw (c.in_ok-entered.ensures.there, c.in_ok-entered.ensures.left, c.in_ok-progress.ensures.1) at is);
  left = search rules;
}

pub loop-step-preserved : goal.loop-step-preserved
loop-step-preserved c =
    let path = c.loop-step.progress.path.items in
    let references = given (found_by c.args.definitions.now) path in
    let inner = expanded_copies references (content_last c.args.definitions.now path) c.loop-step.progress.left in
    let fits : Fits references inner c.loop-step.progress.left c.in-Some.one.now = rw c.in-Some.is at c.in_ok-one.ensures.fits in
    let ends : Ends (Some c.in-Some-stuck.stuck) references (Ok (c.loop-step.progress.left - c.in-Some.one.now.size.visited)) (remaining_visits inner) = rw (c.in-Some-stuck.is) at fits.ends in
    record {
      fails = λ fault is.
          let failing = c.in_ok-entered-2.ensures.content (c.loop-step.progress.left - c.in-Some.one.now.size.visited) ∙ (rw (c.in_ok-entered-2.ensures.there, c.in_ok-entered-2.ensures.left) at is) in
          c.loop-step.invariant.fails fault (fault_is inner fault (ends fault (ap remaining_visits (rw (c.as_str.ensures) at failing))));
      left = omega (arith, c.in_ok-entered-2.ensures.left, c.loop-step.invariant.left);
    }
