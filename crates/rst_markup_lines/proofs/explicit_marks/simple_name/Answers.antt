use Rattle.std.proofs.Common.{◌≡◌, ◌<◌, drop, length, true, false, arith, rules, ap, sym, ◌∙◌}
use Rattle.std.specs.Str.{chars}
use Rattle.std.proofs.lemmas.List.{drop-drop}
use Rattle.rst_text.specs.Characters.{is_alnum_at}
use Rattle.rst_markup_lines.proofs.SimpleNames.{goes_on, names-more, name-stops, name-ends, name-none, inside}
use Rattle.rst_markup_lines.proofs.explicit_marks.simple_name.Goals as goal

pub returns-then-not-begins_alphanumeric-clause-value : goal.returns-then-not-begins_alphanumeric-clause-value
returns-then-not-begins_alphanumeric-clause-value c =
    let none : is_alnum_at (chars c.args.text.now) 0 ≡ false = cc in name-none (chars c.args.text.now) none

pub loop-c-smaller : goal.loop-c-smaller
loop-c-smaller c = c.after_first-following.ensures.shorter (search rules)

pub loop-c-preserved : goal.loop-c-preserved
loop-c-preserved c =
    let short : length c.after_first-following.result.now < length c.loop-c.rest.now = c.after_first-following.ensures.shorter (search rules) in
    let begun : is_alnum_at (chars c.args.text.now) 0 ≡ true = cc in
    let more : goes_on c.in-Some.c (drop 1 (chars c.loop-c.rest.now)) ≡ true = cc in
    record {
      text = search rules;
      place = sym (drop-drop 1 c.loop-c.n (chars c.args.text.now)) ∙ ap (drop 1) c.loop-c.invariant.place ∙ sym c.after_first-following.ensures.value;
      names = names-more (chars c.args.text.now) (chars c.loop-c.rest.now) c.in-Some.c c.loop-c.n c.loop-c.invariant.place (cc) begun c.loop-c.invariant.names more;
      inside = omega (arith, inside (chars c.args.text.now) (chars c.loop-c.rest.now) c.in-Some.c c.loop-c.n c.loop-c.invariant.place (cc));
      within = omega arith;
    }

pub returns-then-not-goes_on-clause-value : goal.returns-then-not-goes_on-clause-value
returns-then-not-goes_on-clause-value c =
    let begun : is_alnum_at (chars c.args.text.now) 0 ≡ true = cc in
    let stop : goes_on c.in-Some.c (drop 1 (chars c.loop-c.rest.now)) ≡ false = cc in
    name-stops (chars c.args.text.now) (chars c.loop-c.rest.now) c.in-Some.c c.loop-c.n c.loop-c.invariant.place (cc) begun c.loop-c.invariant.names stop

pub returns-in_default-clause-value : goal.returns-in_default-clause-value
returns-in_default-clause-value c =
    let begun : is_alnum_at (chars c.args.text.now) 0 ≡ true = cc in
    name-ends (chars c.args.text.now) (chars c.loop-c.rest.now) c.loop-c.n c.loop-c.invariant.place (cc) c.loop-c.invariant.inside begun c.loop-c.invariant.names
