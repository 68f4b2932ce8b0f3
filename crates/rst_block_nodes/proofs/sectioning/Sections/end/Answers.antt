use Rattle.std.proofs.Common.{[], ◌∷◌, ◌++◌, length, ap, ap₂, ◌∙◌, arith}
use Rattle.std.proofs.lemmas.List.{length_push}
use Rattle.rst_block_nodes.specs.Sections.{filled}
use Rattle.rst_block_nodes.proofs.SectionLemmas.{ended}
use Rattle.rst_block_nodes.proofs.sectioning.Sections.end.Goals as goal

pub loop-alloc-preserved-in_ok-push : goal.loop-alloc-preserved-in_ok-push
loop-alloc-preserved-in_ok-push c =
    let s = c.loop-alloc.self in
    record {
      closed = λ ms stops.
          ended s.outer.items c.pop.new.self.items c.in-Some.round s.current (record { element = c.replace-element.new.dest.element; nodes = c.push.new.self }) ms c.in-Some.ensures.items
          (ap (λ o. o.element) c.replace-element.ensures.after)
          (c.in_ok-push.ensures ∙ ap (λ n. c.replace-element.new.dest.nodes ++ n ∷ []) c.in_ok-completed.ensures
          ∙ ap₂ (λ o inner. o.nodes ++ filled inner.element inner.nodes ∷ []) c.replace-element.ensures.after c.replace-element.ensures.value)
          (λ deeper h. stops deeper (omega (arith, s.outer.ok.0)))
          ∙ c.loop-alloc.invariant.closed ms stops;
      enough = λ h. omega (arith, s.outer.ok.0, ap length c.in-Some.ensures.items ∙ length_push c.pop.new.self.items c.in-Some.round);
      styles = c.loop-alloc.invariant.styles;
    }
