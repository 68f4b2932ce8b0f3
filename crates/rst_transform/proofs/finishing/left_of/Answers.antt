use Rattle.std.proofs.Common.{◌≡◌, ◌∙◌, ◌++◌, List, map, ap, ap₂, rules, subst}
use Rattle.std.proofs.Math.Path.{fun_ext}
use Rattle.rst_settings.specs.Profile.{profile_of}
use Rattle.rst_transform_names.proofs.RegisteredRoot.{registered_kind}
use Rattle.rst_transform_names.specs.Registering.{registration}
use Rattle.rst_transform_work.specs.declared.document.Document.{Document}
use Rattle.rst_transform_work.specs.Known.{Holds, Known}
use Rattle.rst_transform_work.specs.States.{document_in, document_node}
use Rattle.rst_transform_structure.specs.Classes.{with_classes}
use Rattle.rst_transform_structure.specs.LastSection.{with_last_section}
use Rattle.rst_transform_messages.specs.Filtered.{with_filtered}
use Rattle.rst_transform_messages.specs.Listed.{numbered_report, Lists}
use Rattle.rst_transform_messages.specs.Messages.{is_number_reported, unnumbered_notes, until_halt, NumberedNote}
use Rattle.rst_transform_messages.specs.MessagesIn.{messages_among}
use Rattle.rst_transform.specs.Finishing.{all_messages, document_at_first, known_at_first, transformed}
use Rattle.rst_transform.proofs.Sequence.{makes_then, parsed_document, same_kind}
use Rattle.rst_transform.proofs.finishing.left_of.Goals as goal

pub of-requires : goal.of-requires
of-requires c =
    same_kind c.in_ok-registered.registered.root (registration c.args.parsed.messages c.args.parsed.tree).root c.args.parsed.tree c.in_ok-registered.ensures.root
    (registered_kind c.args.parsed.messages c.args.parsed.tree) (parsed_document c.args.parsed.tree c.args.parsed.parsed)

pub returns-clause-left : goal.returns-clause-left
returns-clause-left c =
    let settings = c.args.settings.now in
    let profile = profile_of settings in
    let r = registration c.args.parsed.messages c.args.parsed.tree in
    let known = known_at_first c.args.parsed.messages r in
    let begun : c.of.result ≡ document_in r.root = ap document_in c.of.ensures ∙ ap document_in c.in_ok-registered.ensures.root in
    let start : c.in_ok-start.start ≡ document_at_first settings r = c.in_ok-start.ensures ∙ ap (with_classes settings.parts.directives) begun in
    let after : Document → Document × Known = λ d. let done = transformed profile settings d known in with_last_section settings.report done.0 done.1 in
    let made = makes_then (transformed profile settings c.in_ok-start.start) (with_last_section settings.report) _ c.transformed.new.context c.last_section.new.context _ c.in_ok-sectioned.sectioned c.in_ok-after.ensures c.in_ok-sectioned.ensures known (search rules) in
    let done = subst (λ d. (c.in_ok-sectioned.sectioned ≡ (after d).0) × Holds c.last_section.new.context (after d).1) start made in
    let first : List NumberedNote = messages_among (document_at_first settings r).children in
    let listed : Lists first c.in_ok-list.list = subst (λ (d : Document). Lists (messages_among d.children) c.in_ok-list.list) start c.in_ok-list.ensures.messages in
    let all_numbered : List NumberedNote = first ++ map numbered_report c.last_section.new.context.reports.items in
    let all : all_numbered ≡ all_messages settings r (after (document_at_first settings r)).1.reports = ap (λ reports. first ++ map numbered_report reports) done.1.reports in
    let lists : Lists all_numbered c.add_reports.new.self = c.in_ok-add_reports.ensures.adds first listed in
    let report = c.in_ok-add_reports.ensures.levels.1 ∙ c.in_ok-list.ensures.report in
    let halt = c.in_ok-add_reports.ensures.levels.0 ∙ c.in_ok-list.ensures.halt in (
      c.into_node.ensures
          ∙ ap document_node (c.in_ok-filtered_document.ensures.document
          ∙ ap (λ filtered_document. with_filtered settings.report filtered_document c.in_ok-sectioned.sectioned) (fun_ext (λ n. c.reported.ensures all_numbered lists n ∙ ap (λ from. is_number_reported from all_numbered n) report)))
          ∙ ap₂ (λ (all : List NumberedNote) (d : Document). document_node (with_filtered settings.report (is_number_reported settings.report all) d)) all done.0,
      c.end-notes.ensures.notes all_numbered lists ∙ ap (λ halt. until_halt halt (unnumbered_notes all_numbered)) halt ∙ ap (λ all. until_halt settings.halt (unnumbered_notes all)) all,
    )
