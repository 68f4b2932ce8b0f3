use Rattle.std.proofs.Common.{◌≡◌, ◌∙◌, ◌-◌, ◌≤◌, [], ◌∷◌, ◌++◌, Some, append-nil, ap, length, refl, rules, sym, take}
use Rattle.std.specs.Prelude.{if◌then◌else◌, is_some}
use Rattle.rst_tree.specs.Attributes.{value_of}
use Rattle.rst_tree.specs.Nodes.{forest_of, nodes_of}
use Rattle.rst_tree.specs.declared.key.Key.TheVariants.{Local}
use Rattle.rst_tree.specs.declared.node.Node.TheVariants.{Element}
use Rattle.rst_tree.specs.declared.tag.Tag.TheVariants.{Topic}
use Rattle.rst_transform_contents.specs.Contents.{place_of, tabled, with_list}
use Rattle.rst_transform_contents.specs.Entries.{backlinks_of, levels_of}
use Rattle.rst_transform_contents.proofs.TopicLemmas.{none_of, tabled_some, topic_becomes}
use Rattle.rst_transform_contents.proofs.entries.Tables.add_topic.Goals.{then-has, else-has}
use Rattle.rst_transform_contents.proofs.entries.Tables.add_topic.Goals as goal

pub returns-then-is_empty : goal.returns-then-is_empty
returns-then-is_empty c =
    let place = c.in-Some.place.now in
    let is : place_of c.args.children ≡ Some place = search rules in
    let backlinks : c.in_ok-backlinks.backlinks ≡ backlinks_of c.args.attrs place = search rules in
    let levels : c.levels_of.result ≡ levels_of place = search rules in
    let outline : forest_of c.if-has.outline.now ≡ (if is_some (value_of Local place) then forest_of c.args.here.now else forest_of c.args.root.now) =
    elim c.if-has.branch [ then-has w ↦ rw (w.outline-is, ← c.has.ensures, w.if-has.true) refl | else-has w ↦ rw (w.outline-is, ← c.has.ensures, w.if-has.false) refl ] in
    let empty : length c.in_ok-entries.entries.items ≤ 0 = search rules in
    let none : c.in_ok-entries.entries.items ≡ [] = none_of c.in_ok-entries.entries.items empty in
    topic_becomes c.args.attrs c.args.children c.args.line (forest_of c.args.root.now) (forest_of c.args.here.now) place is c.in_ok-backlinks.backlinks c.levels_of.result (forest_of c.if-has.outline.now) backlinks levels outline
    c.args.self.now c.entries.new.self c.in_ok-entries.entries.items c.args.made.now.items c.args.made.now.items c.in_ok-entries.ensures
    (sym (append-nil c.args.made.now.items) ∙ ap (λ made. c.args.made.now.items ++ tabled c.args.attrs c.args.children c.args.line made) (sym none))

pub returns : goal.returns
returns c =
    let place = c.in-Some.place.now in
    let is : place_of c.args.children ≡ Some place = search rules in
    let backlinks : c.in_ok-backlinks.backlinks ≡ backlinks_of c.args.attrs place = search rules in
    let levels : c.levels_of.result ≡ levels_of place = search rules in
    let outline : forest_of c.if-has.outline.now ≡ (if is_some (value_of Local place) then forest_of c.args.here.now else forest_of c.args.root.now) =
    elim c.if-has.branch [ then-has w ↦ rw (w.outline-is, ← c.has.ensures, w.if-has.true) refl | else-has w ↦ rw (w.outline-is, ← c.has.ensures, w.if-has.false) refl ] in
    let some : 1 ≤ length c.in_ok-entries.entries.items = search rules in
    let popped : c.pop.new.self.items ≡ take (length (nodes_of c.args.children) - 1) (nodes_of c.args.children) = search rules in
    let made : c.push-2.new.self.items ≡ c.args.made.now.items ++ Element Topic c.args.attrs (with_list c.args.children c.in_ok-entries.entries.items) c.args.line ∷ [] = search (rules, popped) in
    topic_becomes c.args.attrs c.args.children c.args.line (forest_of c.args.root.now) (forest_of c.args.here.now) place is c.in_ok-backlinks.backlinks c.levels_of.result (forest_of c.if-has.outline.now) backlinks levels outline
    c.args.self.now c.entries.new.self c.in_ok-entries.entries.items c.args.made.now.items c.push-2.new.self.items c.in_ok-entries.ensures
    (made ∙ ap (λ ns. c.args.made.now.items ++ ns) (sym (tabled_some c.args.attrs c.args.children c.args.line c.in_ok-entries.entries.items some)))
