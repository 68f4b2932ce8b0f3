use Rattle.std.proofs.Common.{◌≡◌, ◌+◌, ◌<◌, drop, length, true, false, arith, rules}
use Rattle.std.specs.Str.{chars}
use Rattle.rst_markup_lines.specs.Class.{is_in, run}
use Rattle.rst_markup_lines.proofs.Runs.{run_more, run_stop, run_end}
use Rattle.rst_markup_lines.proofs.class.run.Goals as goal

pub loop-c-smaller : goal.loop-c-smaller
loop-c-smaller c = c.after_first-rest.ensures.shorter (search rules)

pub loop-c-preserved : goal.loop-c-preserved
loop-c-preserved c =
    let short : length c.after_first-rest.result.now < length c.loop-c.rest.now = c.after_first-rest.ensures.shorter (search rules) in
    let inside : is_in c.args.class c.in-Some.c ≡ true = cc in
    let value : c.loop-c.n + 1 + run c.args.class (drop 1 (chars c.loop-c.rest.now)) ≡ run c.args.class (chars c.args.text.now) = run_more c.args.class (chars c.loop-c.rest.now) c.in-Some.c c.loop-c.n _ (cc) inside c.loop-c.invariant.value in
    record {
      text = search rules;
      value = cc;
      within = omega arith;
    }

pub returns-then-not-is_in-clause-value : goal.returns-then-not-is_in-clause-value
returns-then-not-is_in-clause-value c =
    let outside : is_in c.args.class c.in-Some.c ≡ false = cc in
    run_stop c.args.class (chars c.loop-c.rest.now) c.in-Some.c c.loop-c.n _ (cc) outside c.loop-c.invariant.value

pub returns-in_default-clause-value : goal.returns-in_default-clause-value
returns-in_default-clause-value c = run_end c.args.class (chars c.loop-c.rest.now) c.loop-c.n _ (cc) c.loop-c.invariant.value
