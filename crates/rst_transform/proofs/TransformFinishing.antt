-- From end to end: a document with flat replacement texts is finished with at most 205 levels more, and its texts keep a property.
use Rattle.std.proofs.Common.{ℕ, ◌+◌, ◌≤◌, max, Bool, true, false, List, arith}
use Rattle.rst_settings.specs.Profile.{Profile}
use Rattle.rst_settings.specs.declared.Settings.{Settings}
use Rattle.rst_tree.specs.declared.node.Node.{Node}
use Rattle.rst_tree.specs.declared.node.Node.TheVariants.{Element, Text}
use Rattle.rst_tree.specs.Nodes.{children_in, node_height}
use Rattle.rst_transform_names.specs.Registering.{registration, Registration}
use Rattle.rst_transform_work.specs.declared.document.Document.{Document}
use Rattle.rst_transform_work.specs.Known.{Known}
use Rattle.rst_transform_work.specs.States.{document_in}
use Rattle.rst_transform_substitutions.specs.Expanded.{with_expansions}
use Rattle.rst_transform_structure.specs.Classes.{with_classes}
use Rattle.rst_transform_structure.specs.LastSection.{with_last_section}
use Rattle.rst_transform_structure.specs.Targets.{with_targets}
use Rattle.rst_transform_structure.specs.Title.{with_title}
use Rattle.rst_transform_structure.specs.Transitions.{with_transitions}
use Rattle.rst_transform_contents.specs.Contents.{with_contents}
use Rattle.rst_transform_docinfo.specs.Docinfo.{with_docinfo}
use Rattle.rst_transform_references.specs.FootnoteLabels.{symbols}
use Rattle.rst_transform_messages.specs.Messages.{is_number_reported}
use Rattle.rst_transform.specs.Finishing.{all_messages, asked, document_at_first, known_at_first, leaves}
use Rattle.rst_transform.specs.Linking.{resolved_links, with_links}
use Rattle.rst_tree_laws.proofs.AnyTexts.{Anything, any, any_kept, any_suited, node_any}
use Rattle.rst_tree_laws.proofs.Have.{node_weaker}
use Rattle.rst_transform_laws.proofs.Held.{DocumentHeld, KnownHas}
use Rattle.rst_tree_laws.proofs.LineCharacters.{lines_tree, spelled_lines, text_suited}
use Rattle.rst_tree_laws.proofs.PrintedLines.{spelled_pieces}
use Rattle.rst_tree_laws.proofs.Properties.{Suited}
use Rattle.rst_transform_laws.proofs.TransformContents.{contents_held}
use Rattle.rst_transform_laws.proofs.TransformClasses.{classes_fit}
use Rattle.rst_transform_laws.proofs.TransformDocinfo.{docinfo_held}
use Rattle.rst_transform_laws.proofs.LinkTexts.{links_held, symbols_kept}
use Rattle.rst_transform_laws.proofs.TransformMessages.{filtered_held}
use Rattle.rst_transform_laws.proofs.TransformNames.{names_fit}
use Rattle.rst_transform_laws.proofs.TransformStructure.{last_section_held, targets_held, title_held, transitions_held}
use Rattle.rst_transform_laws.proofs.TransformLow.{document_low, levels_low}
use Rattle.rst_transform_laws.proofs.TransformSubstitutions.{substitutions_held}
use Rattle.rst_tree_laws.specs.Texts.{AttrsHave, Kept, NodeHas, Spells, TextsHave, is_text_character}
use Rattle.rst_tree_laws.specs.Trees.{IsTree}
use Rattle.rst_tree_index.specs.Parsed.{IsParsed}
use Rattle.rst_tree_index.specs.Parsed.{levels_by, AreFlat}

flat_in : (n : Node) → AreFlat 2 (children_in n) → AreFlat 2 (document_in n).children
flat_in (Element t a c l) h = h
flat_in (Text t) h = h

module _ (P : ℕ → Bool) (T : List ℕ → Type 0) (s : Suited P T) (signs : Kept P symbols) where
  abbrev BothHeld : ℕ → Document × Known → Type 0
  BothHeld m done = DocumentHeld T m done.0 × KnownHas T done.1

  asked_held : (b : Bool) (transform : Document → Known → Document × Known) (m k : ℕ) (done : Document × Known) → m ≤ k → BothHeld m done → (BothHeld m done → BothHeld k (transform done.0 done.1)) → BothHeld k (asked b transform done.0 done.1)
  asked_held true transform m k done le h held = held h
  asked_held false transform m k done le h held = (((omega (arith, le, h.0.0.0), h.0.0.1), h.0.1), h.1)

  document_has : (n : Node) → NodeHas T n → TextsHave T (document_in n).children × AttrsHave T (document_in n).attrs
  document_has (Element t a c l) has = (has.1, has.0)
  document_has (Text t) has = (tt, tt)

  given_attrs : (directives : Bool) (d : Document) → AttrsHave T d.attrs → AttrsHave T (with_classes directives d).attrs
  given_attrs true d has = has
  given_attrs false d has = has

  started_held : (h m : ℕ) (directives : Bool) (n : Node) (known : Known) → 2 ≤ h → AreFlat h (document_in n).children → levels_by h (document_in n).children ≤ m → NodeHas T n → KnownHas T known
      → BothHeld (m + 1) (with_expansions (with_classes directives (document_in n)) known)
  started_held h m directives n known some flat fits has k =
      let texts = document_has n has in
      let given = classes_fit P T s h (Unit {0}) directives (document_in n) m (fits, λ _. flat, texts.0) in
      substitutions_held P T s h some (m + 1) (with_classes directives (document_in n)) known (given.1 tt) given.0 given.2 (given_attrs directives (document_in n) texts.1) k

  pub finishing_held : (messages : ℕ) (profile : Profile) (settings : Settings) (document : Node) → AreFlat 2 (children_in document) → NodeHas T document
      → (node_height (leaves messages profile settings document).0 ≤ node_height document + 205) × NodeHas T (leaves messages profile settings document).0
  unfolding resolved_links
  finishing_held messages profile settings document flat has =
      let r : Registration = registration messages document in
      let named = names_fit P T s 2 messages document in
      let m : ℕ = levels_by 5 (document_in r.root).children + 1 in
      let expanded : Document × Known = with_expansions (document_at_first settings r) (known_at_first messages r) in
      let retargeted : Document × Known = with_targets settings.parts.unmarked expanded.0 expanded.1 in
      let titled : Document × Known = asked settings.title with_title retargeted.0 retargeted.1 in
      let informed : Document × Known = asked profile.docinfo (with_docinfo settings.parts) titled.0 titled.1 in
      let listed : Document × Known = asked settings.parts.directives with_contents informed.0 informed.1 in
      let linked : Document × Known = with_links listed.0 listed.1 in
      let done : Document × Known = with_transitions linked.0 linked.1 in
      let shown : Document × Known = with_last_section settings.report done.0 done.1 in
      let at_first = started_held 5 (levels_by 5 (document_in r.root).children) settings.parts.directives r.root (known_at_first messages r) (omega arith) (named.1 (flat_in document flat)) (omega arith) (named.2 has) tt in
      let at_targets = targets_held P T s m settings.parts.unmarked expanded.0 expanded.1 at_first.0 in
      let at_title = asked_held settings.title with_title m m retargeted (omega arith) (at_targets, at_first.1) (λ h. (title_held P T s m retargeted.0 retargeted.1 h.0, h.1)) in
      let at_docinfo = asked_held profile.docinfo (with_docinfo settings.parts) m (m + 3) titled (omega arith) at_title (λ h. docinfo_held P T s settings.parts m titled.0 titled.1 h.0 h.1) in
      let at_contents = asked_held settings.parts.directives with_contents (m + 3) (m + 3 + 194) informed (omega arith) at_docinfo (λ h. contents_held P T s (m + 3) informed.0 informed.1 h.0 h.1) in
      let at_links = links_held P T s signs (m + 3 + 194) listed.0 listed.1 at_contents.0 at_contents.1 in
      let at_transitions = transitions_held P T s (m + 3 + 194 + 1) linked.0 linked.1 at_links.0 at_links.1 in
      let at_end = last_section_held P T s (m + 3 + 194 + 1 + 2) settings.report done.0 done.1 at_transitions.0 at_transitions.1 in
      let left = filtered_held P T s (max (m + 3 + 194 + 1 + 2) 4) settings.report (is_number_reported settings.report (all_messages settings r shown.1.reports)) shown.0.children at_end.0.0 in
      (omega (arith, left.0, named.0, document_low document, (levels_low 2 (document_in document).children).1), (at_end.0.1, left.1))

-- the law on levels for each document
pub finishing_low : (messages : ℕ) (profile : Profile) (settings : Settings) (document : Node) → AreFlat 2 (children_in document)
    → node_height (leaves messages profile settings document).0 ≤ node_height document + 205
finishing_low messages profile settings document flat = (finishing_held any Anything any_suited (any_kept symbols) messages profile settings document flat (node_any document)).0

-- what is left of a parsed document is a tree
pub finished_tree : (messages : ℕ) (profile : Profile) (settings : Settings) (document : Node) → IsParsed document → IsTree (leaves messages profile settings document).0
finished_tree messages profile settings document parsed =
    let left : Node = (leaves messages profile settings document).0 in
    let both = finishing_held is_text_character (Spells is_text_character) text_suited symbols_kept messages profile settings document parsed.flat parsed.texts in
    record { tree = lines_tree left (omega (arith, both.0, parsed.levels)) (node_weaker (Spells is_text_character) _ spelled_lines left both.1); lines = node_weaker (Spells is_text_character) _ spelled_pieces left both.1 }
