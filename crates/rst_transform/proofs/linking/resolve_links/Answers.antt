use Rattle.std.proofs.Common.{◌∙◌, ap, subst}
use Rattle.rst_transform_references.specs.Anonymous.{anonymous}
use Rattle.rst_transform_references.specs.Changes.{changed_document}
use Rattle.rst_transform_references.specs.Footnotes.{footnotes}
use Rattle.rst_transform_references.specs.Indirect.{indirect}
use Rattle.rst_transform_references.specs.Links.{links_of}
use Rattle.rst_transform_references.specs.Resolving.{references}
use Rattle.rst_transform_references.specs.Table.{Links}
use Rattle.rst_transform_work.specs.Known.{Makes}
use Rattle.rst_transform.specs.Linking.{resolved_links}
use Rattle.rst_transform.proofs.Sequence.{makes_then}
use Rattle.rst_transform.proofs.linking.resolve_links.Goals as goal

pub returns : goal.returns
unfolding resolved_links
returns c known h =
    let first : Makes (anonymous (links_of c.args.document)) c.args.context.now c.resolve_anonymous.new.context c.resolve_anonymous.new.links =
    subst (λ (links : Links). Makes (anonymous links) c.args.context.now c.resolve_anonymous.new.context c.resolve_anonymous.new.links) c.in_ok-links.ensures c.in_ok-resolve_anonymous.ensures in
    let second = makes_then (anonymous (links_of c.args.document)) indirect c.args.context.now c.resolve_anonymous.new.context c.resolve_indirect.new.context _ _ first c.in_ok-resolve_indirect.ensures in
    let third = makes_then _ footnotes c.args.context.now c.resolve_indirect.new.context c.resolve_footnotes.new.context _ _ second c.in_ok-resolve_footnotes.ensures in
    let last = makes_then _ references c.args.context.now c.resolve_footnotes.new.context c.resolve_names.new.context _ _ third c.in_ok-resolve_names.ensures known h in
    (c.in_ok-with_changes.ensures ∙ ap (λ changes. changed_document changes c.args.document) (c.into_changes-changes.ensures ∙ ap (λ links. links.changes) last.0), last.1)
