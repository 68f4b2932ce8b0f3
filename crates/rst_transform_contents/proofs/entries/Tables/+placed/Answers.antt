use Rattle.std.proofs.Common.{◌≡◌, ◌∙◌, true, false, [], ◌∷◌, ◌++◌, None, Some, ap, refl, rules, subst, sym}
use Rattle.rst_tree.specs.Forest.{height}
use Rattle.rst_tree.specs.Nodes.{forest_of}
use Rattle.rst_tree.specs.declared.node.Node.TheVariants.{Element, Text}
use Rattle.rst_transform_names.specs.NameMessages.{is_section}
use Rattle.rst_transform_contents.specs.Contents.{first_inside, is_topic, placed, Becomes}
use Rattle.rst_transform_contents.proofs.PlacedSteps.{after_node, becomes_other, becomes_section, becomes_text, becomes_topic, inside_none, inside_some, low_rest, own_placed, placed_all, placed_more, Inside}
use Rattle.rst_transform_contents.proofs.entries.Tables.+placed.Goals.{in-Some-first_inside+in_ok-placed-in-Some-first_inside, in-None}
use Rattle.rst_transform_contents.proofs.entries.Tables.+placed.Goals as goal

pub loop-node-preserved-in_ok-push-in-Text : goal.loop-node-preserved-in_ok-push-in-Text
loop-node-preserved-in_ok-push-in-Text t c =
    let root = forest_of c.args.root.now in
    let here = forest_of c.args.here.now in
    let sections = forest_of c.loop-node.sections.now in
    let rest = c.pop_front.new.self.items in
    let popped : c.loop-node.left.items ≡ c.in-Some.node ∷ rest = search rules in
    let put : c.push.new.self.items ≡ c.loop-node.made.items ++ Text c.in-Text.text ∷ [] = search rules in
    let own : Becomes (own_placed root here sections c.in-Some.node) c.loop-node.self c.loop-node.self c.loop-node.made.items c.push.new.self.items =
    subst (λ n. Becomes (own_placed root here sections n) c.loop-node.self c.loop-node.self c.loop-node.made.items c.push.new.self.items) (sym c.in-Text.is) (becomes_text root here sections c.in-Text.text c.loop-node.self c.loop-node.made.items c.push.new.self.items put) in record {
      threads = placed_more root here sections c.in-Some.node rest c.loop-node.left.items sections (placed root here here c.args.nodes) c.args.self.now c.loop-node.self c.loop-node.self c.loop-node.made.items c.push.new.self.items popped (ap (λ n. after_node n sections) (sym c.in-Text.is)) c.loop-node.invariant.threads own;
      low = low_rest c.in-Some.node rest c.loop-node.left.items (height c.args.nodes) popped c.loop-node.invariant.low;
    }

pub loop-node-preserved-then-is_section : goal.loop-node-preserved-then-is_section
loop-node-preserved-then-is_section t c =
    let root = forest_of c.args.root.now in
    let here = forest_of c.args.here.now in
    let sections = forest_of c.loop-node.sections.now in
    let rest = c.pop_front.new.self.items in
    let tag = c.in-Element.tag in
    let attrs = c.in-Element.attrs in
    let nodes = c.in-Element.children in
    let line = c.in-Element.line in
    let popped : c.loop-node.left.items ≡ c.in-Some.node ∷ rest = search rules in
    let kind : is_section tag ≡ true = sym c.is_section.ensures ∙ c.if-is_section.true in
    let inside : Inside root sections nodes c.loop-node.self c.match-first_inside.self c.match-first_inside.inside = elim c.match-first_inside.branch [
      | in-Some-first_inside+in_ok-placed-in-Some-first_inside w ↦
          let is : first_inside sections ≡ Some (forest_of w.in-Some-first_inside.inner.now) = search rules in
          rw (w.self-is, w.inside-is) (inside_some root sections nodes (forest_of w.in-Some-first_inside.inner.now) c.loop-node.self w.placed.new.self w.in_ok-placed-in-Some-first_inside.field-0.items w.of-inside.result is w.in_ok-placed-in-Some-first_inside.ensures w.of-inside.ensures)
      | in-None w ↦
          let none : first_inside sections ≡ None = search rules in
          rw (w.self-is, w.inside-is) (inside_none root sections nodes c.loop-node.self nodes none refl)
    ] in
    let put : c.push-then-is_section.new.self.items ≡ c.loop-node.made.items ++ Element tag attrs c.match-first_inside.inside line ∷ [] = search rules in
    let own = becomes_section root here sections tag attrs nodes line c.loop-node.self c.match-first_inside.self c.loop-node.made.items c.push-then-is_section.new.self.items kind c.match-first_inside.inside inside put in
    let own_node : Becomes (own_placed root here sections c.in-Some.node) c.loop-node.self c.match-first_inside.self c.loop-node.made.items c.push-then-is_section.new.self.items =
    subst (λ n. Becomes (own_placed root here sections n) c.loop-node.self c.match-first_inside.self c.loop-node.made.items c.push-then-is_section.new.self.items) (sym c.in-Element.is) own in
    let after : forest_of c.others-sections.result.now ≡ after_node c.in-Some.node sections = rw (c.in-Element.is, kind) c.others-sections.ensures in record {
      threads = placed_more root here sections c.in-Some.node rest c.loop-node.left.items (forest_of c.others-sections.result.now) (placed root here here c.args.nodes) c.args.self.now c.loop-node.self c.match-first_inside.self c.loop-node.made.items c.push-then-is_section.new.self.items popped after c.loop-node.invariant.threads own_node;
      low = low_rest c.in-Some.node rest c.loop-node.left.items (height c.args.nodes) popped c.loop-node.invariant.low;
    }

pub loop-node-preserved-in_ok-add_topic-in-Element : goal.loop-node-preserved-in_ok-add_topic-in-Element
loop-node-preserved-in_ok-add_topic-in-Element t c =
    let root = forest_of c.args.root.now in
    let here = forest_of c.args.here.now in
    let sections = forest_of c.loop-node.sections.now in
    let rest = c.pop_front.new.self.items in
    let popped : c.loop-node.left.items ≡ c.in-Some.node ∷ rest = search rules in
    let other : is_section c.in-Element.tag ≡ false = sym c.is_section.ensures ∙ c.if-is_section.false in
    let kind : is_topic c.in-Element.tag ≡ true = sym c.is_topic.ensures ∙ c.if-is_topic.true in
    let own = becomes_topic root here sections c.in-Element.tag c.in-Element.attrs c.in-Element.children c.in-Element.line c.loop-node.self c.add_topic.new.self c.loop-node.made.items c.add_topic.new.made.items other kind c.in_ok-add_topic-in-Element.ensures in
    let own_node : Becomes (own_placed root here sections c.in-Some.node) c.loop-node.self c.add_topic.new.self c.loop-node.made.items c.add_topic.new.made.items =
    subst (λ n. Becomes (own_placed root here sections n) c.loop-node.self c.add_topic.new.self c.loop-node.made.items c.add_topic.new.made.items) (sym c.in-Element.is) own in
    let after : sections ≡ after_node c.in-Some.node sections = rw (c.in-Element.is, other) refl in record {
      threads = placed_more root here sections c.in-Some.node rest c.loop-node.left.items sections (placed root here here c.args.nodes) c.args.self.now c.loop-node.self c.add_topic.new.self c.loop-node.made.items c.add_topic.new.made.items popped after c.loop-node.invariant.threads own_node;
      low = low_rest c.in-Some.node rest c.loop-node.left.items (height c.args.nodes) popped c.loop-node.invariant.low;
    }

pub loop-node-preserved : goal.loop-node-preserved
loop-node-preserved t c =
    let root = forest_of c.args.root.now in
    let here = forest_of c.args.here.now in
    let sections = forest_of c.loop-node.sections.now in
    let rest = c.pop_front.new.self.items in
    let more = c.push-else-is_topic.new.self.items in
    let popped : c.loop-node.left.items ≡ c.in-Some.node ∷ rest = search rules in
    let section : is_section c.in-Element.tag ≡ false = sym c.is_section.ensures ∙ c.if-is_section.false in
    let topic : is_topic c.in-Element.tag ≡ false = sym c.is_topic.ensures ∙ c.if-is_topic.false in
    let put : c.push-else-is_topic.new.self.items ≡ c.loop-node.made.items ++ Element c.in-Element.tag c.in-Element.attrs c.in-Element.children c.in-Element.line ∷ [] = search rules in
    let own = becomes_other root here sections c.in-Element.tag c.in-Element.attrs c.in-Element.children c.in-Element.line c.loop-node.self c.loop-node.made.items more section topic put in
    let own_node : Becomes (own_placed root here sections c.in-Some.node) c.loop-node.self c.loop-node.self c.loop-node.made.items more =
    subst (λ n. Becomes (own_placed root here sections n) c.loop-node.self c.loop-node.self c.loop-node.made.items more) (sym c.in-Element.is) own in
    let after : sections ≡ after_node c.in-Some.node sections = rw (c.in-Element.is, section) refl in record {
      threads = placed_more root here sections c.in-Some.node rest c.loop-node.left.items sections (placed root here here c.args.nodes) c.args.self.now c.loop-node.self c.loop-node.self c.loop-node.made.items more popped after c.loop-node.invariant.threads own_node;
      low = low_rest c.in-Some.node rest c.loop-node.left.items (height c.args.nodes) popped c.loop-node.invariant.low;
    }

pub returns : goal.returns
returns t c =
    let none : c.loop-node.left.items ≡ [] = search rules in
    placed_all (forest_of c.args.root.now) (forest_of c.args.here.now) (forest_of c.loop-node.sections.now) c.loop-node.left.items (placed (forest_of c.args.root.now) (forest_of c.args.here.now) (forest_of c.args.here.now) c.args.nodes)
    c.args.self.now c.loop-node.self c.loop-node.made.items none c.loop-node.invariant.threads
