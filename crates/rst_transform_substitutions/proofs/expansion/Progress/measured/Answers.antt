use Rattle.std.proofs.Common.{◌≡◌, ◌-◌, ◌<◌, length, true, arith, sym, ◌∙◌, Some}
use Rattle.std.specs.Prelude.{slice_get}
use Rattle.std.specs.List.{list_all}
use Rattle.rst_transform_work.specs.Lists.{at_place}
use Rattle.rst_transform_substitutions.specs.declared.expansion.ExpansionFault.TheVariants.{TooLarge}
use Rattle.rst_transform_substitutions.specs.Expansion.{most_nested}
use Rattle.rst_transform_substitutions.specs.Sizes.{is_above}
use Rattle.rst_transform_substitutions.proofs.Sizing.{ends_failing, fault_is, last_ends, takes_deep, takes_large, takes_ok}
use Rattle.rst_transform_substitutions.proofs.expansion.Progress.measured.Goals as goal
use Rattle.rst_transform_substitutions.proofs.expansion.Progress.measured.Goals.{then-one-more-via-then-one-more, then-one-more-via-else-one-more+then-one-self}

pub returns-then-one-more-clause-fault : goal.returns-then-one-more-clause-fault
returns-then-one-more-clause-fault c =
    let path = c.args.self.now.path.items in
    let one = c.in-Some-item_at.one.now in
    let last : slice_get path (length path - 1) ≡ Some c.in-Some.last.now = sym (rw (c.deref.ensures.value) at c.in-Some.ensures.value) in
    let there : at_place c.args.definitions.now.measured.items c.in-Some.last.now ≡ Some one = rw (c.deref-2.ensures.value) at c.in-Some-item_at.ensures in
    let above : list_all (is_above c.args.definitions.now.measured.items one.size.nested) path ≡ true = rw (c.deref-3.ensures.value, c.deref-4.ensures.value) at (sym c.are_above.ensures ∙ c.if-not-are_above.false) in
    fault_is _ TooLarge
    (ends_failing one.stuck _ _ _ TooLarge (elim c.then-one-more.branch [
      | then-one-more-via-then-one-more w ↦ let deep : most_nested - length path < one.size.nested = omega (arith, w.if-one-more.true) in takes_deep one.size (most_nested - length path) c.args.self.now.left deep
      | then-one-more-via-else-one-more+then-one-self w ↦ takes_large one.size (most_nested - length path) c.args.self.now.left w.if-one-self.true
    ]) (last_ends c.args.definitions.now path c.in-Some.last.now one c.args.self.now.left c.requires.sized last there above c.requires.left).0)

pub returns-clause-fits : goal.returns-clause-fits
returns-clause-fits c =
    let path = c.args.self.now.path.items in
    let one = c.in-Some-item_at.one.now in
    let last : slice_get path (length path - 1) ≡ Some c.in-Some.last.now = sym (rw (c.deref.ensures.value) at c.in-Some.ensures.value) in
    let there : at_place c.args.definitions.now.measured.items c.in-Some.last.now ≡ Some one = rw (c.deref-2.ensures.value) at c.in-Some-item_at.ensures in
    let above : list_all (is_above c.args.definitions.now.measured.items one.size.nested) path ≡ true = rw (c.deref-3.ensures.value, c.deref-4.ensures.value) at (sym c.are_above.ensures ∙ c.if-not-are_above.false) in
    let ends = last_ends c.args.definitions.now path c.in-Some.last.now one c.args.self.now.left c.requires.sized last there above c.requires.left in
    record {
      within = c.if-one-self.false;
      ends = rw (takes_ok one.size (most_nested - length path) c.args.self.now.left (omega (arith, c.if-one-more.false)) c.if-one-self.false) at ends.0;
      copy = ends.1;
    }
