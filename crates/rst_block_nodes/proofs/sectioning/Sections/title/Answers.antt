use Rattle.std.proofs.Common.{◌≡◌, ◌+◌, true, false, length, map, nat_lt, [], ◌∷◌, ◌++◌, ap, ap₂, ◌∙◌, arith, rules}
use Rattle.std.proofs.lemmas.Bool.{lt-ltb, le-ltb}
use Rattle.rst_block_nodes.specs.Texts.{section_node}
use Rattle.rst_block_nodes.specs.OpenSections.{close, open_of}
use Rattle.rst_block_nodes.specs.Sections.{level_of, members, judged, title_of, title_notes, with_style}
use Rattle.rst_block_nodes.proofs.SectionLemmas.{opened, level_positive, refused, accepted, entered}
use Rattle.rst_block_nodes.proofs.sectioning.Sections.title.Goals as goal

pub returns-then-level-len : goal.returns-then-level-len
returns-then-level-len c items =
    let self = c.args.self.now in
    let style = c.args.heading.style in
    let is : c.level_of-level.result ≡ level_of style self.styles.items = c.level_of-level.ensures ∙ ap (level_of style) c.as_slice.ensures.value in
    let high : nat_lt (length self.outer.items + 1) (level_of style self.styles.items) ≡ true = lt-ltb (length self.outer.items + 1) (level_of style self.styles.items) (omega (arith, self.outer.ok.0)) in
    ap (λ xs. (close 0 (map open_of self.outer.items) (opened self.current.element xs) (members (judged self.styles.items (length self.outer.items) items))).0) c.in_ok-push.ensures
    ∙ refused (map open_of self.outer.items) self.current.element c.in_ok-of.field-0 self.current.nodes self.styles.items (length self.outer.items) (title_of c.args.heading) items (search rules) high

pub end-requires : goal.end-requires
end-requires c = let e = c.level_of-level.ensures in omega (arith, level_positive c.args.heading.style c.as_slice.result.now)

pub returns : goal.returns
returns c items =
    let self = c.args.self.now in
    let h = title_of c.args.heading in
    let level = c.level_of-level.result in
    let is : level ≡ level_of h.style self.styles.items = c.level_of-level.ensures ∙ ap (level_of h.style) c.as_slice.ensures.value in
    let low : nat_lt (length self.outer.items + 1) level ≡ false = le-ltb (length self.outer.items + 1) level (omega (arith, self.outer.ok.0)) in
    let more : c.if-level-len-2.self.styles.items ≡ with_style h.style self.styles.items = search (rules, is) in
    let outer : c.if-level-len-2.self.outer ≡ self.outer = search rules in
    let current : c.if-level-len-2.self.current ≡ self.current = search rules in
    let m = c.end.new.self in
    let len : length m.outer.items + 1 ≡ level = omega (arith, c.in_ok-end.ensures.few, c.in_ok-end.ensures.enough (omega (arith, self.outer.ok.0, ap (λ o. length o.items) outer))) in
    let notes : c.match-warning-3.nodes ≡ title_notes h = search rules in
    accepted self m (record { outer = c.push-2.new.self; current = c.replace.new.dest; styles = m.styles }) h items level is low
    (λ ms stops. c.in_ok-end.ensures.closed ms stops ∙ ap₂ (λ o k. close 0 (map open_of o.items) (open_of k) ms) outer current) len
    (λ ms. entered c.push-2.new.self.items m.outer.items m.current c.replace.new.dest h ms (c.in_ok-push-3.ensures.items ∙ ap (λ o. m.outer.items ++ o ∷ []) c.replace.ensures.value)
    (ap (λ o. o.element) c.replace.ensures.after ∙ c.in_ok-element.ensures ∙ ap (λ n. section_node h.element n h.line) (c.len-3.ensures ∙ ap length notes))
    (ap (λ o. o.nodes) c.replace.ensures.after ∙ notes))
    (search rules) (ap (λ ss. ss.items) c.in_ok-end.ensures.styles ∙ more)
