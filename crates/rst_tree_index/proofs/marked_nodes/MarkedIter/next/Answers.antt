use Rattle.std.proofs.Common.{rules, ◌≡◌, ◌++◌, [], ◌+◌, ◌-◌, arith, ap, sym, subst, ◌∙◌}
use Rattle.std.specs.Prelude.{map, option_to_list, None, Some}
use Rattle.std.proofs.lemmas.List.{nil_from_length}
use Rattle.std.specs.Vec.Iter.{into_iter_items, into_iter_len, into_iter_steps}
use Rattle.rst_tree_index.specs.Known.{place_and_marks}
use Rattle.rst_tree_index.proofs.Knowing.{next_passed, next_taken, nothing_here}
use Rattle.rst_tree_index.proofs.marked_nodes.MarkedIter.next.Goals as goal

pub plain-requires : goal.plain-requires
plain-requires c =
    let m = c.self.inside in
    let none : m.ahead ≡ None = search rules in
    let es = map place_and_marks (option_to_list m.ahead ++ into_iter_items m.known) in
    let nil : es ≡ [] = ap (λ a. map place_and_marks (option_to_list a ++ into_iter_items m.known)) none ∙ ap (map place_and_marks) (c.self.invariant.1 none) in
    (next_passed m.count (into_iter_len m.nodes) (into_iter_len c.next.new.self) (into_iter_items m.nodes) (into_iter_items c.next.new.self) c.in_ok-root.root es c.self.invariant.0 (search rules)
    c.in_ok-root.ensures.items c.self.invariant.2 (nothing_here (m.count - into_iter_len m.nodes) es nil)).0

pub from_parts-requires : goal.from_parts-requires
from_parts-requires c =
    let m = c.self.inside in
    let some : m.ahead ≡ Some c.in-Some.known = search rules in
    (next_taken m.count (into_iter_len m.nodes) (into_iter_len c.next.new.self) (into_iter_items m.nodes) (into_iter_items c.next.new.self) c.in_ok-root.root (place_and_marks c.in-Some.known)
    (map place_and_marks (into_iter_items m.known)) c.self.invariant.0 (search rules) c.in_ok-root.ensures.items
    (ap (λ a. map place_and_marks (option_to_list a ++ into_iter_items m.known)) (sym some) ∙ c.self.invariant.2) (search rules)).0

pub invariant_of-self-2 : goal.invariant_of-self-2
invariant_of-self-2 c =
    let m = c.self.inside in
    let some : m.ahead ≡ Some c.in-Some.known = search rules in
    let one : into_iter_len c.next.new.self + 1 ≡ into_iter_len m.nodes = search rules in
    let all = next_taken m.count (into_iter_len m.nodes) (into_iter_len c.next.new.self) (into_iter_items m.nodes) (into_iter_items c.next.new.self) c.in_ok-root.root (place_and_marks c.in-Some.known)
    (map place_and_marks (into_iter_items m.known)) c.self.invariant.0 one c.in_ok-root.ensures.items
    (ap (λ a. map place_and_marks (option_to_list a ++ into_iter_items m.known)) (sym some) ∙ c.self.invariant.2) (search rules) in
    let end : c.next-2.result ≡ None → into_iter_items c.next-2.new.self ≡ [] =
    λ none. sym (c.next-2.ensures.items ∙ ap (λ r. option_to_list r ++ into_iter_items c.next-2.new.self) none)
    ∙ nil_from_length _ (sym m.known.rest.ok.0 ∙ (subst (λ r. into_iter_steps m.known r c.next-2.new.self) none c.next-2.ensures.cases).0) in
    (omega (arith, one, c.self.invariant.0), end, ap (map place_and_marks) (sym c.next-2.ensures.items) ∙ all.1)
