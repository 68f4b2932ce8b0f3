-- The nodes of a text have at most three levels and are flat, and their texts and those of its messages have a property.
use Rattle.std.proofs.Common.{◌≡◌, ℕ, ◌+◌, ◌-◌, ◌≤◌, Bool, true, false, List, [], ◌∷◌, ◌++◌, length, take, Option, None, Some, arith, refl}
use Rattle.std.specs.Prelude.{◌==◌, codes, unwrap_or}
use Rattle.std.specs.List.{list_all, prefix_len}
use Rattle.std.proofs.lemmas.Bool.{and_parts, cond_both}
use Rattle.rst_settings.specs.Parts.{hands_role}
use Rattle.rst_settings.specs.declared.Parts.{Parts}
use Rattle.rst_text.specs.Characters.{Text}
use Rattle.rst_text.specs.Escapes.{unescaped}
use Rattle.rst_tree.specs.declared.node.Node.{Node}
use Rattle.rst_tree.specs.declared.note.Level.{Level}
use Rattle.rst_tree.specs.declared.note.Level.TheVariants.{Warning, Error}
use Rattle.rst_tree.specs.declared.note.Note.{Note}
use Rattle.rst_tree.specs.declared.tag.Tag.{Tag}
use Rattle.rst_tree.specs.declared.tag.Tag.TheVariants.{Emphasis as IsEmphasis, Handed as IsHanded, Literal as IsLiteral, Problematic, Reference as IsReference, Strong as IsStrong, Math as IsMath, SubstitutionReference, Target as IsTarget, TitleReference}
use Rattle.rst_tree.specs.Forest.{Forest, bare, words}
use Rattle.rst_tree.specs.Phrases.{phrase_text}
use Rattle.rst_inline_scan.specs.declared.piece.Kind.{Kind}
use Rattle.rst_inline_scan.specs.declared.piece.Kind.TheVariants.{Plain, Marked, Unended, Label, Reference, Uri, Address}
use Rattle.rst_inline_scan.specs.declared.piece.Markup.TheVariants.{Literal, Strong, Emphasis, Target, Substitution, Interpreted}
use Rattle.rst_inline_scan.specs.declared.piece.Piece.{Piece}
use Rattle.rst_inline_scan.specs.declared.piece.Suffix.{Suffix}
use Rattle.rst_inline_scan.specs.declared.piece.Suffix.TheVariants.{Bare, Role as RoleAfter, Named, Anonymous}
use Rattle.rst_inline.specs.Elements.{text_children, text_element, link_node, reference_node, substitution_node, substituted_node, autonumbered_reference_node, label_reference_node, label_tag, problematic_node}
use Rattle.rst_inline.specs.Embedded.{dark_end, embedded_at, enclosed, is_alias, meant, phrase_display_text}
use Rattle.rst_inline_scan.specs.Mail.{is_address}
use Rattle.rst_inline.specs.Mail.{uri_of_address, mailed}
use Rattle.rst_inline.specs.Numbers.{fragment_start, is_pep, is_rfc, pep_uri, rfc_number, rfc_uri, wrong_number}
use Rattle.rst_inline.specs.Parts.{source, content, text_bytes}
use Rattle.rst_inline.specs.Readings.{plain_reading, embedded_reading, phrase_reading_at, handed_role, role_reading_by, prefix_role, suffix_role, has_prefix_role, interpreted_reading, reading_by, reading}
use Rattle.rst_inline.specs.Results.{nodes_by, notes_by, number_after, nodes_from, notes_of}
use Rattle.rst_inline.specs.Roles.{role_named}
use Rattle.rst_inline.specs.declared.roles.Role.{Role}
use Rattle.rst_inline.specs.declared.roles.Role.TheVariants.{Element, Pep, Rfc, Math, Code, Raw, Unimplemented}
use Rattle.rst_tree_laws.specs.Texts.{Kept, NotesHave, TextsHave, is_fixed}
use Rattle.rst_block_laws.proofs.DirectiveTexts.{quoted_has}
use Rattle.rst_block_laws.proofs.Fits.{AllFit, Fits}
use Rattle.rst_tree_laws.proofs.Lists.{all_append}
use Rattle.rst_tree_laws.proofs.Properties.{Suited, all_filter, fixed_has, name_has, normalized_kept, part_kept, unescaped_kept}
use Rattle.rst_block_laws.proofs.Weights.{is_flat, light_at, low_flat, weighed, weight}

module _ (P : ℕ → Bool) (T : List ℕ → Type 0) (s : Suited P T) (parts : Parts) where
  fixed_kept : (t : Text) → list_all is_fixed t ≡ true → Kept P t
  fixed_kept [] e = tt
  fixed_kept (c ∷ cs) e = let both = and_parts (is_fixed c) _ e in (s.fixed c both.0, fixed_kept cs both.1)

  -- the scheme of an address, and the address
  uri_kept : (t : Text) → Kept P t → Kept P (uri_of_address t)
  uri_kept t h = all_append _ (codes "mailto:") t (fixed_kept (codes "mailto:") refl) h

  mailed_kept : (asked : Bool) (t : Text) → Kept P t → Kept P (mailed asked t)
  mailed_kept false t h = h
  mailed_kept true t h = cond_both (is_address t) (Some (uri_of_address t)) None (λ r. Kept P (unwrap_or r t)) (λ e. uri_kept t h) (λ e. h)

  meant_kept : (u : Text) → Kept P u → Kept P (meant parts.mail u)
  meant_kept u h = cond_both (is_alias u) _ _ (Kept P) (λ e. unescaped_kept P _ (part_kept P u 0 (length u - 1) h)) (λ e. mailed_kept parts.mail _ (all_filter _ _ (unescaped u) (unescaped_kept P u h)))

  shown_kept : (t : Text) (k : ℕ) → Kept P t → Kept P (phrase_display_text parts.mail t k)
  shown_kept t k h = cond_both (k == 0) _ _ (Kept P) (λ e. meant_kept (enclosed t k) (part_kept P t (k + 1) (length t - 1) h)) (λ e. unescaped_kept P _ (part_kept P t 0 (dark_end t k) h))

  -- the nodes and the messages of a piece
  abbrev PieceFits : List Node → List Note → Type 0
  PieceFits nodes notes = AllFit T 3 nodes × NotesHave T notes

  -- what is in an element that holds a text
  held : (m : ℕ) (tag : Tag) (cs : Text) → Kept P cs → (weighed (is_flat tag (text_children cs)) (weight (text_children cs)) ≤ m + 2) × TextsHave T (text_children cs)
  held m tag [] h = (light_at tag bare (m + 2) (low_flat tag bare (omega arith)) (omega arith), tt)
  held m tag (c ∷ cs) h = let f : Forest = words (text_bytes (c ∷ cs)) bare in (light_at tag f (m + 2) (low_flat tag f (omega arith)) (omega arith), (s.encoded (c ∷ cs) h, tt))

  -- a piece, where the next message has the number n
  module _ (t : Text) (p : Piece) (n line : ℕ) (whole : Kept P (source t p)) where
    wrong : (level : Level) (text : List ℕ) → T text → PieceFits (problematic_node n (source t p) line ∷ []) (record { level = level; line = line; text = text; block = None } ∷ [])
    wrong level text h = let w = held 1 Problematic _ whole in (((w.0, ((tt, tt), w.1)), tt), ((h, tt), tt))

    one : (tag : Tag) (cs : Text) → Kept P cs → PieceFits (text_element tag [] cs line ∷ []) []
    one tag cs h = let w = held 1 tag cs h in (((w.0, (tt, w.1)), tt), tt)

    -- what the piece means
    abbrev MeaningFits : {M : Type 0} → (M → ℕ → Text → ℕ → List Node) → (M → ℕ → List Note) → M → Type 0
    MeaningFits nodes notes m = PieceFits (nodes m n (source t p) line) (notes m line)

    plain_fits : (cs : Text) → Kept P cs → MeaningFits nodes_by notes_by (plain_reading cs)
    plain_fits [] h = (tt, tt)
    plain_fits (c ∷ cs) h = (((omega arith, s.encoded (c ∷ cs) h), tt), tt)

    link_fits : (uri shown : Text) → Kept P shown → PieceFits (link_node (source t p) uri shown line ∷ []) []
    link_fits uri shown h = let w = held 1 IsReference shown h in (((w.0, ((s.encoded _ whole, (tt, tt)), w.1)), tt), tt)

    handed_fits : (name : List ℕ) → MeaningFits nodes_by notes_by (handed_role name (source t p) line)
    handed_fits name = let w = held 1 IsHanded (source t p) whole in (((w.0, ((tt, (tt, (tt, tt))), w.1)), tt), tt)

    -- the error on a text that is no number of a document
    number_wrong : (expected : List ℕ) (number : Text) → list_all is_fixed (expected ++ codes "; \"") ≡ true → Kept P number → MeaningFits nodes_by notes_by (wrong_number expected number)
    number_wrong expected number e k = wrong Error _ (quoted_has P T s (expected ++ codes "; \"") (text_bytes number) (codes "\" is invalid.") e refl (s.encoded number k))

    -- an error that shows the name of a role
    role_wrong : (before after : List ℕ) (role : Text) → list_all is_fixed before ≡ true → list_all is_fixed after ≡ true → Kept P role → PieceFits (problematic_node n (source t p) line ∷ []) (record { level = Error; line = line; text = before ++ text_bytes role ++ after; block = None } ∷ [])
    role_wrong before after role e f r = wrong Error _ (quoted_has P T s before (text_bytes role) after e f (s.encoded role r))

    role_fits : (o : Option Role) (role written : Text) → Kept P role → Kept P written → Kept P (unescaped written) → MeaningFits nodes_by notes_by (role_reading_by o (text_bytes role) (source t p) written line)
    role_fits (Some (Element tag)) role written r h k = one tag _ k
    role_fits (Some Pep) role written r h k =
        let cs : Text = unescaped written in
        cond_both (is_pep cs) _ _ (MeaningFits nodes_by notes_by) (λ e. link_fits (pep_uri cs) (codes "PEP " ++ cs) (all_append _ (codes "PEP ") cs (fixed_kept (codes "PEP ") refl) k))
        (λ e. number_wrong (codes "PEP number must be a number from 0 to 9999") cs refl k)
    role_fits (Some Rfc) role written r h k =
        let cs : Text = unescaped written in
        let number : Kept P (rfc_number cs) = part_kept P cs (prefix_len (λ c. c == 48) (take (fragment_start cs) cs)) (fragment_start cs) k in
        cond_both (is_rfc cs) _ _ (MeaningFits nodes_by notes_by) (λ e. link_fits (rfc_uri cs) (codes "RFC " ++ rfc_number cs) (all_append _ (codes "RFC ") (rfc_number cs) (fixed_kept (codes "RFC ") refl) number))
        (λ e. number_wrong (codes "RFC number must be a number greater than or equal to 1") cs refl k)
    role_fits (Some Math) role written r h k = one IsMath written h
    role_fits (Some Code) role written r h k = let w = held 1 IsLiteral written h in (((w.0, ((tt, tt), w.1)), tt), tt)
    role_fits (Some Raw) role written r h k =
        role_wrong (codes "No format (Writer name) is associated with this role: \"")
        (codes "\".\nThe \"raw\" role cannot be used directly.\nInstead, use the \"role\" directive to create a new role with an associated format.") role refl refl r
    role_fits (Some Unimplemented) role written r h k = role_wrong (codes "Interpreted text role \"") (codes "\" not implemented.") role refl refl r
    role_fits None role written r h k = role_wrong (codes "Unknown interpreted text role \"") (codes "\".") role refl refl r

    reference_fits : (suffix : Suffix) (shown name : Text) → Kept P shown → Kept P name → Fits T 3 (reference_node suffix (source t p) shown name line)
    reference_fits Anonymous shown name h k = let w = held 1 IsReference shown h in (w.0, ((tt, (tt, (s.encoded _ whole, tt))), w.1))
    reference_fits _ shown name h k = let w = held 1 IsReference shown h in (w.0, ((tt, (s.encoded _ whole, (name_has P T s name k, tt))), w.1))

    substituted_fits : (suffix : Suffix) (inner shown : Text) → Kept P shown → Fits T 2 (substitution_node inner shown line) → Fits T 3 (substituted_node suffix inner (source t p) shown line)
    substituted_fits Bare inner shown h own = (omega arith, own.1)
    substituted_fits Anonymous inner shown h own = (omega arith, ((tt, (s.encoded _ whole, tt)), (own.1.0, own.1.1, tt)))
    substituted_fits _ inner shown h own = (omega arith, ((s.encoded _ whole, (name_has P T s shown h, tt)), (own.1.0, own.1.1, tt)))

    embedded_fits : (asked : Bool) (suffix : Suffix) (shown meaning : Text) (alias : Bool) → Kept P shown → Kept P meaning
        → MeaningFits nodes_by notes_by (embedded_reading asked suffix (source t p) shown meaning alias line)
    embedded_fits asked Named shown meaning true h k =
        let own = reference_fits Named shown meaning h k in
        cond_both asked _ _ (MeaningFits nodes_by notes_by) (λ _. ((own, ((omega arith, ((tt, (name_has P T s shown h, (name_has P T s meaning k, tt))), tt)), tt)), tt))
        (λ _. ((own, tt), tt))
    embedded_fits _ _ shown meaning true h k = ((reference_fits Named shown meaning h k, tt), tt)
    embedded_fits _ Named shown meaning false h k =
        let w = held 1 IsReference shown h in (((w.0, ((tt, (s.encoded _ whole, (tt, tt))), w.1)), ((omega arith, ((tt, (name_has P T s shown h, (tt, tt))), tt)), tt)), tt)
    embedded_fits _ _ shown meaning false h k = let w = held 1 IsReference shown h in (((w.0, ((tt, (s.encoded _ whole, (tt, tt))), w.1)), tt), tt)

    phrase_fits : (suffix : Suffix) (phrase : Text) (o : Option ℕ) → Kept P phrase → MeaningFits nodes_by notes_by (phrase_reading_at parts suffix (source t p) phrase o line)
    phrase_fits suffix phrase (Some k) h =
        embedded_fits parts.unmarked suffix _ _ (is_alias (enclosed phrase k)) (shown_kept phrase k h) (meant_kept (enclosed phrase k) (part_kept P phrase (k + 1) (length phrase - 1) h))
    phrase_fits suffix phrase None h = ((reference_fits suffix _ _ (unescaped_kept P phrase h) (unescaped_kept P phrase h), tt), tt)

    label_fits : (label : Text) → Kept P label → Fits T 3 (label_reference_node (source t p) label line)
    label_fits [] h = (omega arith, ((s.encoded _ whole, (name_has P T s [] tt, tt)), tt))
    label_fits (c ∷ cs) h =
        cond_both (c == 35) _ _ (Fits T 3) (λ _. auto_fits cs h.1)
        (λ _. cond_both (c == 42) _ _ (Fits T 3) (λ _. (omega arith, ((tt, (s.encoded _ whole, tt)), tt)))
        (λ _. let w = held 1 (label_tag (c ∷ cs)) (c ∷ cs) h in (w.0, ((s.encoded _ whole, (name_has P T s (c ∷ cs) h, tt)), w.1))))
      where
        auto_fits : (name : Text) → Kept P name → Fits T 3 (autonumbered_reference_node (source t p) name line)
        auto_fits [] k = (omega arith, ((tt, (s.encoded _ whole, tt)), tt))
        auto_fits (d ∷ ds) k = (omega arith, ((tt, (s.encoded _ whole, (name_has P T s (d ∷ ds) k, tt))), tt))

    module _ (h : Kept P t) (within : Kept P (content t p)) (shown : Kept P (unescaped (content t p))) where
      interpreted_fits : (front : Bool) (suffix : Suffix) → MeaningFits nodes_by notes_by (interpreted_reading parts front suffix t p line)
      interpreted_fits true Bare =
          cond_both (hands_role parts (text_bytes (prefix_role t p))) _ _ (MeaningFits nodes_by notes_by) (λ e. handed_fits (text_bytes (prefix_role t p)))
          (λ e. role_fits (role_named parts.roles (text_bytes (prefix_role t p))) (prefix_role t p) _ (part_kept P t (p.from + 1) (p.content_from - 2) h) within shown)
      interpreted_fits true _ = wrong Warning _ (fixed_has P T s _ refl)
      interpreted_fits false Bare = cond_both (hands_role parts []) _ _ (MeaningFits nodes_by notes_by) (λ e. handed_fits []) (λ e. one TitleReference _ shown)
      interpreted_fits false RoleAfter =
          cond_both (hands_role parts (text_bytes (suffix_role t p))) _ _ (MeaningFits nodes_by notes_by) (λ e. handed_fits (text_bytes (suffix_role t p)))
          (λ e. role_fits (role_named parts.roles (text_bytes (suffix_role t p))) (suffix_role t p) _ (part_kept P t (p.content_to + 2) (p.to - 1) h) within shown)
      interpreted_fits false suffix = phrase_fits suffix (content t p) (embedded_at (content t p)) within

      kind_fits : (k : Kind) → MeaningFits nodes_by notes_by (reading_by parts k t p line)
      unfolding phrase_text
      kind_fits Plain = plain_fits _ (unescaped_kept P _ whole)
      kind_fits (Marked Literal suffix) = one IsLiteral _ within
      kind_fits (Marked Substitution suffix) =
          let w = held 0 SubstitutionReference _ shown in
          ((substituted_fits suffix _ _ shown (w.0, ((s.encoded _ (part_kept P t p.from (p.content_to + 1) h), (s.encoded _ (normalized_kept P T s _ shown), tt)), w.1)), tt), tt)
      kind_fits (Marked Interpreted suffix) = interpreted_fits (has_prefix_role p) suffix
      kind_fits (Marked Target suffix) = let w = held 1 IsTarget _ shown in (((w.0, ((tt, (name_has P T s _ shown, tt)), w.1)), tt), tt)
      kind_fits (Marked Strong suffix) = one IsStrong _ shown
      kind_fits (Marked Emphasis suffix) = one IsEmphasis _ shown
      kind_fits Label = ((label_fits (content t p) within, tt), tt)
      kind_fits (Reference suffix) = ((reference_fits suffix _ _ within within, tt), tt)
      kind_fits Uri = link_fits (unescaped (source t p)) _ (unescaped_kept P _ whole)
      kind_fits Address = link_fits (uri_of_address (unescaped (source t p))) _ (unescaped_kept P _ whole)
      kind_fits (Unended Strong) = wrong Warning _ (fixed_has P T s _ refl)
      kind_fits (Unended _) = wrong Warning _ (fixed_has P T s _ refl)

  piece_fits : (t : Text) (line n : ℕ) (p : Piece) → Kept P t → PieceFits (nodes_by (reading parts t line p) n (source t p) line) (notes_by (reading parts t line p) line)
  unfolding reading
  piece_fits t line n p h =
      let within = part_kept P t p.content_from p.content_to h in kind_fits t p n line (part_kept P t p.from p.to h) h within (unescaped_kept P (content t p) within) p.kind

  pub text_fits : (t : Text) (line number : ℕ) (pieces : List Piece) → Kept P t → AllFit T 3 (nodes_from parts t line number pieces)
  text_fits t line number [] h = tt
  text_fits t line number (p ∷ ps) h =
      all_append _ (nodes_by (reading parts t line p) number (source t p) line) _ (piece_fits t line number p h).0 (text_fits t line (number_after (reading parts t line p) number) ps h)

  pub notes_have : (t : Text) (line : ℕ) (pieces : List Piece) → Kept P t → NotesHave T (notes_of parts t line pieces)
  notes_have t line [] h = tt
  notes_have t line (p ∷ ps) h = all_append _ (notes_by (reading parts t line p) line) _ (piece_fits t line 0 p h).1 (notes_have t line ps h)
