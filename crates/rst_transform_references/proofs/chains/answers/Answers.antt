use Rattle.std.proofs.Common.{◌≡◌, ◌∙◌, [], ◌∷◌, ◌++◌, arith, rules}
use Rattle.std.specs.Prelude.{Some, None}
use Rattle.std.proofs.lemmas.List.FromFn.{map-range_with_len_more}
use Rattle.rst_transform_references.specs.Chains.{next_on, stopped}
use Rattle.rst_transform_work.specs.Lists.{at_place}
use Rattle.rst_transform_references.proofs.Following.{answered, end, one_more, Walk-more, Walk-next}
use Rattle.rst_transform_references.proofs.chains.answers.Goals as goal

pub loop-next-smaller : goal.loop-next-smaller
loop-next-smaller c =
    let goes : next_on c.args.steps.now c.loop-next.starts.items c.loop-next.place ≡ Some c.in-Some.next = search rules in
    let more = one_more c.args.steps.now c.loop-start.start c.loop-next.starts.items c.loop-next.place c.loop-next.invariant c.in-Some.next goes in
    rw (c.put_at.ensures) (omega (arith, more.0, more.1))

pub loop-next-preserved : goal.loop-next-preserved
loop-next-preserved c =
    let goes : next_on c.args.steps.now c.loop-next.starts.items c.loop-next.place ≡ Some c.in-Some.next = search rules in
    rw (c.put_at.ensures) (Walk-more c.args.steps.now c.loop-start.start c.loop-next.starts.items c.loop-next.place c.loop-next.invariant c.in-Some.next goes)

pub loop-start-preserved : goal.loop-start-preserved
loop-start-preserved c =
    let known = c.loop-start.invariant.known in
    let stops : next_on c.args.steps.now c.loop-next.starts.items c.loop-next.place ≡ None = search rules in
    let is : c.in_ok-answer.answer ≡ stopped (at_place c.args.steps.now c.loop-next.place) (at_place c.loop-next.starts.items c.loop-next.place) c.loop-start.answers.items = search rules in
    let pushed : c.push.new.self.items ≡ c.loop-start.answers.items ++ c.in_ok-answer.answer ∷ [] = search rules in record {
      known = rw (map-range_with_len_more (end c.args.steps.now) 0 c.loop-start.start c.loop-start.start (omega arith), ← known, ← (is ∙ answered c.args.steps.now c.loop-start.start c.loop-next.starts.items c.loop-next.place c.loop-next.invariant c.loop-start.answers.items stops known)) pushed;
      walk = Walk-next c.args.steps.now c.loop-start.start c.loop-next.starts.items c.loop-next.place c.loop-next.invariant c.loop-start.answers.items stops known;
    }
