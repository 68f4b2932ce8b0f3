-- A document after all transforms, in their order (Document Tree, 'Introduction').
use Rattle.std.specs.Prelude.{◌≡◌, ℕ, Bool, true, false, List, [], ◌++◌, map, Result, Ok, Err}
use Rattle.rst_settings.specs.Profile.{Profile}
use Rattle.rst_settings.specs.declared.Settings.{Settings}
use Rattle.std.specs.declared.alloc.AllocError.{AllocError}
use Rattle.rst_tree.specs.declared.node.Node.{Node}
use Rattle.rst_tree.specs.declared.note.Note.{Note}
use Rattle.rst_transform_names.specs.Registering.{registration, Registration}
use Rattle.rst_transform_work.specs.declared.document.Document.{Document}
use Rattle.rst_transform_work.specs.declared.report.Report.{Report}
use Rattle.rst_transform_work.specs.Known.{Known}
use Rattle.rst_transform_work.specs.States.{document_in, document_node}
use Rattle.rst_transform_substitutions.specs.Expanded.{with_expansions}
use Rattle.rst_transform_structure.specs.Classes.{with_classes}
use Rattle.rst_transform_structure.specs.LastSection.{with_last_section}
use Rattle.rst_transform_structure.specs.Targets.{with_targets}
use Rattle.rst_transform_structure.specs.Title.{with_title}
use Rattle.rst_transform_structure.specs.Transitions.{with_transitions}
use Rattle.rst_transform_contents.specs.Contents.{with_contents}
use Rattle.rst_transform_docinfo.specs.Docinfo.{with_docinfo}
use Rattle.rst_transform_messages.specs.Filtered.{with_filtered}
use Rattle.rst_transform_messages.specs.Listed.{numbered_report}
use Rattle.rst_transform_messages.specs.Messages.{is_number_reported, unnumbered_notes, until_halt, NumberedNote}
use Rattle.rst_transform_messages.specs.MessagesIn.{messages_among}
use Rattle.rst_transform.specs.declared.finishing.Finished.{Finished}
use Rattle.rst_transform.specs.Linking.{with_links}

-- a transform that is asked for takes place; one that isn't leaves the document as it is
abbrev pub asked : Bool → (Document → Known → Document × Known) → Document → Known → Document × Known
asked true transform document known = transform document known
asked false transform document known = (document, known)

-- the transforms up to that of the title
abbrev pub titled_first : Settings → Document → Known → Document × Known
titled_first settings document known =
    let expanded = with_expansions document known in
    let retargeted = with_targets settings.parts.unmarked expanded.0 expanded.1 in
    asked settings.title with_title retargeted.0 retargeted.1

-- All transforms. The profile decides whether a leading field list is bibliographic; the part of directives has tables of contents.
abbrev pub transformed : Profile → Settings → Document → Known → Document × Known
transformed profile settings document known =
    let titled = titled_first settings document known in
    let informed = asked profile.docinfo (with_docinfo settings.parts) titled.0 titled.1 in
    let listed = asked settings.parts.directives with_contents informed.0 informed.1 in
    let linked = with_links listed.0 listed.1 in
    with_transitions linked.0 linked.1

-- what is known before the transforms; `messages` numbers were given to messages
abbrev pub known_at_first : ℕ → Registration → Known
known_at_first messages r = record { ids = r.ids; names = r.names; reports = []; first_number = messages; serials = r.serials }

-- the registered document whose `class` directives have given their words, with which the other transforms begin
abbrev pub document_at_first : Settings → Registration → Document
document_at_first settings r = with_classes settings.parts.directives (document_in r.root)

-- the document after all transforms, with its last section
abbrev pub sectioned : ℕ → Profile → Settings → Registration → Document × Known
sectioned messages profile settings r =
    let done = transformed profile settings (document_at_first settings r) (known_at_first messages r) in with_last_section settings.report done.0 done.1

-- the messages in that document, and then those of the other transforms
abbrev pub all_messages : Settings → Registration → List Report → List NumberedNote
all_messages settings r reports = messages_among (document_at_first settings r).children ++ map numbered_report reports

-- What is left of a parsed document whose messages were given `messages` numbers: the document as it is printed, and the list of
-- messages, up to the first that halts the run.
abbrev pub left_of_document : Settings → List NumberedNote → Document → Node × List Note
left_of_document settings all document =
    (document_node (with_filtered settings.report (is_number_reported settings.report all) document), until_halt settings.halt (unnumbered_notes all))

abbrev pub leaves : ℕ → Profile → Settings → Node → Node × List Note
leaves messages profile settings document =
    let registered = registration messages document in
    let done = sectioned messages profile settings registered in
    left_of_document settings (all_messages settings registered done.1.reports) done.0

-- what is left of it is given, or memory ran out
abbrev pub Finishes : ℕ → Profile → Settings → Node → Result Finished AllocError → Type 0
Finishes messages profile settings document (Ok done) =
    let left = leaves messages profile settings document in (done.tree ≡ left.0) × (done.notes.items ≡ left.1)
Finishes messages profile settings document (Err refused) = Unit {0}
