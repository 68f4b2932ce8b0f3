use Rattle.std.proofs.Common.{◌≡◌, ◌∙◌, length, rules, sym}
use Rattle.std.specs.Prelude.{option_map}
use Rattle.rst_transform_names.specs.Names.{entry_named}
use Rattle.rst_transform_work.specs.Lists.{at_place}
use Rattle.rst_transform_references.specs.Indirect.{concludes, references_to, targets_of}
use Rattle.rst_transform_references.proofs.Each.{each_next, now_is}
use Rattle.rst_transform_references.proofs.Grouping.{list_at, lists_length}
use Rattle.rst_transform_references.proofs.indirect.conclude_all.Goals as goal

pub loop-place-preserved : goal.loop-place-preserved
loop-place-preserved c =
    let answer : option_map (λ a. a.now) c.item_at.result ≡ at_place c.args.answers.now c.loop-place.place = now_is _ _ (search rules) in
    let list : c.list-item.result.items ≡ references_to c.in_ok-targets.targets.items c.loop-place.place =
    list_at (references_to c.in_ok-targets.targets.items) (length c.in_ok-targets.targets.items) c.in_ok-references.references.items c.loop-place.place c.list-item.result (search rules) (search rules) (search rules) in
    each_next (λ place. concludes place (references_to c.in_ok-targets.targets.items place) (at_place c.args.answers.now place)) c.loop-place.place c.args.context.now c.loop-place.context c.conclude.new.context c.args.links.now
    c.loop-place.links c.conclude.new.links c.loop-place.invariant (rw (← answer, ← list) (search rules))

pub returns : goal.returns
returns c known h =
    let meant : c.in_ok-targets.targets.items ≡ targets_of (entry_named c.args.context.now.names) c.args.places.now c.args.links.now = search rules in
    let targets : c.in_ok-targets.targets.items ≡ targets_of known.names c.args.places.now c.args.links.now = meant ∙ (λ i. targets_of (λ name. h.names name i) c.args.places.now c.args.links.now) in
    let count : c.loop-place.place ≡ length c.in_ok-references.references.items = search rules in
    let every : c.loop-place.place ≡ length c.in_ok-targets.targets.items =
    count ∙ lists_length (references_to c.in_ok-targets.targets.items) (length c.in_ok-targets.targets.items) c.in_ok-references.references.items (search rules) in
    rw (← targets) (rw every at c.loop-place.invariant known h)
