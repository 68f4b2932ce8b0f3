use Rattle.std.proofs.Common.{◌≡◌, not, ap, sym, Some, None, arith, true, false}
use Rattle.rst_text.specs.Characters.{is_alnum_at}
use Rattle.rst_text.proofs.SimpleNameLemmas.{name_stop-is, name_stop-none}
use Rattle.rst_text.proofs.simple_names.name_stop.Goals as goal

pub returns-then-not-is_alnum_at-clause-exact : goal.returns-then-not-is_alnum_at-clause-exact
returns-then-not-is_alnum_at-clause-exact c =
    let not_here : is_alnum_at c.args.text.now c.args.start ≡ false = cc in sym (name_stop-none c.args.text.now c.args.start not_here)

pub returns-then-not-is_name_at-clause-exact : goal.returns-then-not-is_name_at-clause-exact
returns-then-not-is_name_at-clause-exact c =
    let here : is_alnum_at c.args.text.now c.args.start ≡ true = cc in
    name_stop-is c.args.text.now c.args.start (Some c.loop-place.place) here (omega arith, omega arith, cc, λ k above below. ap not (c.loop-place.invariant k above below))

pub returns-clause-exact : goal.returns-clause-exact
returns-clause-exact c =
    let here : is_alnum_at c.args.text.now c.args.start ≡ true = cc in
    name_stop-is c.args.text.now c.args.start None here (λ k above below. ap not (c.loop-place.invariant k above (omega arith)))
