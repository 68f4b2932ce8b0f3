use Rattle.std.proofs.Common.{◌≡◌, [], ◌∷◌, ◌++◌, None, Some, rules}
use Rattle.rst_tree.specs.Nodes.{forest_of}
use Rattle.rst_transform_contents.specs.Contents.{Becomes}
use Rattle.rst_transform_contents.specs.Entries.{entries, item, outline_parts, Gives}
use Rattle.rst_transform_contents.proofs.EntrySteps.{below_at, below_none, below_some, entries_all, entries_become, entries_more, entries_none, own_entries}
use Rattle.rst_transform_contents.proofs.Threading.{threads_init}
use Rattle.rst_transform_contents.proofs.entries.Tables.+entries.Goals.{in-Some+in_ok-entry+in_ok-item+in_ok-push, then-levels-gt1+in_ok-below, else-levels-gt1, in_default}
use Rattle.rst_transform_contents.proofs.entries.Tables.+entries.Goals as goal

pub loop-section-init : goal.loop-section-init
loop-section-init t c = threads_init (entries c.args.backlinks.now c.args.levels (forest_of c.args.outline.now)) c.args.self.now _ (search rules)

pub loop-section-preserved : goal.loop-section-preserved
loop-section-preserved t c =
    let backlinks = c.args.backlinks.now in
    let section = c.section-item.result in
    let becomes : Becomes (own_entries backlinks c.args.levels (outline_parts section)) c.loop-section.self c.match-outline_parts.self c.loop-section.made.items c.match-outline_parts.made.items = elim c.match-outline_parts.branch [
      | in-Some+in_ok-entry+in_ok-item+in_ok-push w ↦
          let is : outline_parts section ≡ Some (w.in-Some.attrs.now, w.in-Some.title.now, forest_of w.in-Some.inner.now) = search rules in
          let below : Gives (below_at backlinks c.args.levels (forest_of w.in-Some.inner.now)) w.entry.new.self w.if-levels-gt1.self w.if-levels-gt1.below.items = elim w.if-levels-gt1.branch [
            | then-levels-gt1+in_ok-below u ↦ rw (u.self-is, u.below-is) (below_some backlinks c.args.levels (forest_of w.in-Some.inner.now) w.entry.new.self u.entries.new.self u.in_ok-below.below.items (search rules) u.in_ok-below.ensures)
            | else-levels-gt1 u ↦ rw (u.self-is, u.below-is) (below_none backlinks c.args.levels (forest_of w.in-Some.inner.now) w.entry.new.self u.new-below.result.items (search rules) (search rules))
          ] in
          let put : w.push.new.self.items ≡ c.loop-section.made.items ++ item w.in_ok-entry.entry w.if-levels-gt1.below.items ∷ [] = search rules in
          rw (w.self-is, w.made-is) (entries_become backlinks c.args.levels section (w.in-Some.attrs.now, w.in-Some.title.now, forest_of w.in-Some.inner.now) c.loop-section.self w.entry.new.self w.if-levels-gt1.self w.in_ok-entry.entry w.if-levels-gt1.below.items c.loop-section.made.items w.push.new.self.items is w.in_ok-entry.ensures below put)
      | in_default w ↦
          let none : outline_parts section ≡ None = search rules in
          rw (w.self-is, w.made-is) (entries_none backlinks c.args.levels section c.loop-section.self c.loop-section.made.items none)
    ] in
    entries_more backlinks c.args.levels c.loop-section.section-index c.args.outline.now section c.args.self.now c.loop-section.self c.match-outline_parts.self c.loop-section.made.items c.match-outline_parts.made.items
    c.loop-section-test.true c.section-item.is c.loop-section.invariant becomes

pub returns : goal.returns
returns t c = entries_all c.args.backlinks.now c.args.levels c.loop-section.section-index c.args.outline.now c.args.self.now c.loop-section.self c.loop-section.made.items c.loop-section-test.false c.loop-section.invariant
