use Rattle.std.proofs.Common.{refl}
use Rattle.rst_transform_contents.specs.Contents.{with_contents}
use Rattle.rst_transform_docinfo.specs.Docinfo.{with_docinfo}
use Rattle.rst_transform_structure.specs.Title.{with_title}
use Rattle.rst_transform_structure.specs.Transitions.{with_transitions}
use Rattle.rst_transform_work.specs.Known.{Makes}
use Rattle.rst_transform.specs.Finishing.{asked}
use Rattle.rst_transform.specs.Linking.{with_links}
use Rattle.rst_transform.proofs.Sequence.{makes_then}
use Rattle.rst_transform.proofs.finishing.transformed.Goals.{then-settings+in_ok-titled, else-settings, then-settings-2+in_ok-informed, else-settings-2, then-settings-3+in_ok-listed, else-settings-3}
use Rattle.rst_transform.proofs.finishing.transformed.Goals as goal

pub returns : goal.returns
returns c =
    let settings = c.args.settings.now in
    let title : Makes (asked settings.title with_title c.in_ok-retargeted.retargeted) c.with_early.new.context c.if-settings.context c.if-settings.titled = elim c.if-settings.branch [
      | then-settings+in_ok-titled w ↦ rw (w.titled-is, w.context-is, w.if-settings.true) w.in_ok-titled.ensures
      | else-settings w ↦ rw (w.titled-is, w.context-is, w.if-settings.false) (λ known holds. (refl, holds))
    ] in
    let info : Makes (asked settings.info (with_docinfo settings.parts) c.if-settings.titled) c.if-settings.context c.if-settings-2.context c.if-settings-2.informed = elim c.if-settings-2.branch [
      | then-settings-2+in_ok-informed w ↦ rw (w.informed-is, w.context-is, w.if-settings-2.true) w.in_ok-informed.ensures
      | else-settings-2 w ↦ rw (w.informed-is, w.context-is, w.if-settings-2.false) (λ known holds. (refl, holds))
    ] in
    let contents : Makes (asked settings.parts.directives with_contents c.if-settings-2.informed) c.if-settings-2.context c.if-settings-3.context c.if-settings-3.listed = elim c.if-settings-3.branch [
      | then-settings-3+in_ok-listed w ↦ rw (w.listed-is, w.context-is, w.if-settings-3.true) w.in_ok-listed.ensures
      | else-settings-3 w ↦ rw (w.listed-is, w.context-is, w.if-settings-3.false) (λ known holds. (refl, holds))
    ] in
    let titled = makes_then _ (asked settings.title with_title) c.args.context.now c.with_early.new.context c.if-settings.context _ _ c.in_ok-retargeted.ensures title in
    let informed = makes_then _ (asked settings.info (with_docinfo settings.parts)) c.args.context.now c.if-settings.context c.if-settings-2.context _ _ titled info in
    let listed = makes_then _ (asked settings.parts.directives with_contents) c.args.context.now c.if-settings-2.context c.if-settings-3.context _ _ informed contents in
    let linked = makes_then _ with_links c.args.context.now c.if-settings-3.context c.resolve_links.new.context _ _ listed c.in_ok-linked.ensures in
    makes_then _ with_transitions c.args.context.now c.resolve_links.new.context c.transitions.new.context _ _ linked c.in_ok-after.ensures
