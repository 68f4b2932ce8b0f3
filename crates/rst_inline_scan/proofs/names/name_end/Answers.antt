use Rattle.std.proofs.Common.{◌≡◌, ◌+◌, length, None, true, false, arith}
use Rattle.rst_text.proofs.PlacesLemmas.{last_from-is}
use Rattle.rst_text.specs.Characters.{is_alnum_at}
use Rattle.rst_text.specs.SimpleNames.{is_name_at}
use Rattle.rst_inline_scan.specs.Names.{is_reference, name_end}
use Rattle.rst_inline_scan.proofs.NameLemmas.{is_reference-none, named-start, named-more, named-end}
use Rattle.rst_inline_scan.proofs.names.name_end.Goals as goal

pub returns-then-not-is_alnum_at-clause-exact : goal.returns-then-not-is_alnum_at-clause-exact
unfolding name_end
returns-then-not-is_alnum_at-clause-exact c =
    let not_here : is_alnum_at c.args.text.now c.args.start ≡ false = cc in
    last_from-is (is_reference c.args.text.now c.args.start) (c.args.start + 1) (length c.args.text.now) None (λ k low high. is_reference-none c.args.text.now c.args.start k not_here)

pub loop-place-init : goal.loop-place-init
loop-place-init c = named-start c.args.text.now c.args.start c.requires (cc)

pub loop-place-preserved-then-ends_name : goal.loop-place-preserved-then-ends_name
loop-place-preserved-then-ends_name c = named-more c.args.text.now c.args.start c.loop-place.place c.loop-place.found true c.loop-place.invariant (omega arith) (cc) (cc)

pub loop-place-preserved : goal.loop-place-preserved
loop-place-preserved c = named-more c.args.text.now c.args.start c.loop-place.place c.loop-place.found false c.loop-place.invariant (omega arith) (cc) (cc)

pub returns-else-is_name_at : goal.returns-else-is_name_at
returns-else-is_name_at c =
    let name : is_name_at c.args.text.now c.loop-place.place ≡ false = cc in
    let end = named-end c.args.text.now c.args.start c.loop-place.place c.loop-place.found c.loop-place.invariant (λ more. name) in
    record { exact = end.exact; within = end.within; reach = end.reach }

pub returns-after-loop-place : goal.returns-after-loop-place
returns-after-loop-place c =
    let end = named-end c.args.text.now c.args.start c.loop-place.place c.loop-place.found c.loop-place.invariant (λ more. absurd (omega arith)) in
    record { exact = end.exact; within = end.within; reach = end.reach }
