-- Documents without a leading field list are the same whether bibliographic fields are looked for or not.
use Rattle.std.proofs.Common.{◌≡◌, ◌∙◌, ℕ, Bool, true, false, List, None, refl, sym, ap}
use Rattle.rst_settings.specs.Profile.{Profile}
use Rattle.rst_settings.specs.declared.Parts.{Parts}
use Rattle.rst_settings.specs.declared.Settings.{Settings}
use Rattle.rst_tree.specs.Nodes.{forest_of, nodes_of}
use Rattle.rst_tree.proofs.Changes.{forest_of-nodes_of}
use Rattle.rst_tree.specs.declared.node.Node.{Node}
use Rattle.rst_tree.specs.declared.note.Note.{Note}
use Rattle.rst_transform_contents.specs.Contents.{with_contents}
use Rattle.rst_transform_docinfo.specs.Docinfo.{nodes_with_docinfo, with_docinfo}
use Rattle.rst_transform_names.specs.Registering.{registration, Registration}
use Rattle.rst_transform_structure.specs.LastSection.{with_last_section}
use Rattle.rst_transform_structure.specs.Transitions.{with_transitions}
use Rattle.rst_transform_work.specs.declared.document.Document.{Document}
use Rattle.rst_transform_work.specs.Known.{Known}
use Rattle.rst_transform.specs.Finishing.{all_messages, asked, document_at_first, known_at_first, leaves, left_of_document, titled_first}
use Rattle.rst_transform.specs.Linking.{with_links}
use Rattle.rst2pseudoxml_run.specs.Profiles.{leading_field_list, titled_of}

-- a document without such a list stays as it is, and so do the messages
without_list : (parts : Parts) (document : Document) (known : Known) → leading_field_list document ≡ None → with_docinfo parts document known ≡ (document, known)
without_list parts document known none =
    ap (λ list.
    let made = nodes_with_docinfo parts known.first_number known.reports list (nodes_of document.children) in
    (record document { children = forest_of made.0 }, record known { reports = made.1 })) none
    ∙ ap (λ children. (record document { children = children }, known)) (forest_of-nodes_of document.children)

asked_alike : (parts : Parts) (one other : Bool) (document : Document) (known : Known) → leading_field_list document ≡ None → asked one (with_docinfo parts) document known ≡ asked other (with_docinfo parts) document known
asked_alike parts true true document known none = refl
asked_alike parts true false document known none = without_list parts document known none
asked_alike parts false true document known none = sym (without_list parts document known none)
asked_alike parts false false document known none = refl

module _ (settings : Settings) (messages : ℕ) (document : Node) where
  abbrev registered : Registration
  registered = registration messages document

  abbrev titled : Document × Known
  titled = titled_first settings (document_at_first settings registered) (known_at_first messages registered)

  -- what is left, by what the document and what is known are once bibliographic fields are looked for, or not
  abbrev left_after : Document × Known → Node × List Note
  left_after informed =
      let listed = asked settings.parts.directives with_contents informed.0 informed.1 in
      let linked = with_links listed.0 listed.1 in
      let placed = with_transitions linked.0 linked.1 in
      let done = with_last_section settings.report placed.0 placed.1 in
      left_of_document settings (all_messages settings registered done.1.reports) done.0

  -- what is left is the same where bibliographic fields are looked for by both profiles or by neither, and where no field list leads the document
  pub left_alike : (first later : Profile) → first.docinfo ≡ later.docinfo → leaves messages first settings document ≡ leaves messages later settings document
  left_alike first later same = ap (λ is_asked. left_after (asked is_asked (with_docinfo settings.parts) titled.0 titled.1)) same

  pub left_without_list : (first later : Profile) → leading_field_list (titled_of messages settings document) ≡ None → leaves messages first settings document ≡ leaves messages later settings document
  left_without_list first later none = ap left_after (asked_alike settings.parts first.docinfo later.docinfo titled.0 titled.1 none)
