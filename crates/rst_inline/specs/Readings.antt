-- What a piece of an inline text means (Markup Specification, 'Inline Markup', 'Interpreted Text', 'Hyperlink References',
-- 'Embedded URIs and Aliases', 'Substitution References'; Document Tree, 'system_message').
use Rattle.std.specs.Prelude.{ℕ, ◌+◌, ◌-◌, Bool, true, false, nat_lt, List, [], ◌∷◌, ◌++◌, Option, None, Some, codes, if◌then◌else◌}
use Rattle.rst_settings.specs.Parts.{hands_role}
use Rattle.rst_settings.specs.declared.Parts.{Parts}
use Rattle.rst_tree.specs.declared.node.Node.{Node}
use Rattle.rst_tree.specs.declared.node.Node.TheVariants.{Text as Words}
use Rattle.rst_tree.specs.declared.note.Level.TheVariants.{Warning, Error}
use Rattle.rst_tree.specs.declared.phrase.Phrase.{Phrase}
use Rattle.rst_tree.specs.declared.phrase.Phrase.TheVariants.{UnendedStrong, UnendedEmphasis, UnendedLiteral, UnendedTarget, UnendedSubstitution, UnendedInterpreted}
use Rattle.rst_tree.specs.Nodes.{forest_of}
use Rattle.rst_tree.specs.Phrases.{phrase_text}
use Rattle.rst_tree.specs.declared.tag.Tag.TheVariants as tag
use Rattle.rst_text.specs.Characters.{Text}
use Rattle.rst_text.specs.Escapes.{unescaped}
use Rattle.rst_inline_scan.specs.declared.piece.Kind.TheVariants.{Plain, Marked, Unended, Label, Reference, Uri, Address}
use Rattle.rst_inline_scan.specs.declared.piece.Markup.{Markup}
use Rattle.rst_inline_scan.specs.declared.piece.Markup.TheVariants.{Strong, Emphasis, Literal, Target, Substitution, Interpreted}
use Rattle.rst_inline_scan.specs.declared.piece.Kind.{Kind}
use Rattle.rst_inline_scan.specs.declared.piece.Piece.{Piece}
use Rattle.rst_inline_scan.specs.declared.piece.Suffix.{Suffix}
use Rattle.rst_inline_scan.specs.declared.piece.Suffix.TheVariants.{Bare, Role as RoleAfter, Named, Anonymous}
use Rattle.rst_inline.specs.declared.reading.Meaning.{Meaning}
use Rattle.rst_inline.specs.declared.reading.Meaning.TheVariants.{Nothing, One, Two, Wrong}
use Rattle.rst_inline.specs.Parts.{part, source, content, text_bytes}
use Rattle.rst_inline.specs.declared.roles.Role.{Role}
use Rattle.rst_inline.specs.declared.roles.Role.TheVariants.{Element, Pep, Rfc, Math, Code, Raw, Unimplemented}
use Rattle.rst_inline.specs.Roles.{role_named}
use Rattle.rst_inline.specs.Numbers.{pep_reading, rfc_reading}
use Rattle.rst_inline.specs.Embedded.{embedded_at, enclosed, is_alias, meant, phrase_display_text}
use Rattle.rst_inline.specs.Elements.{text_element, reference_node, uri_node, address_node, embedded_node, alias_target_node, inline_target_node, uri_target_node, substituted_node, label_reference_node, code_node, handed_node}

-- ---- messages

-- the message on a start-string without an end
abbrev pub unended_phrase : Markup → Phrase
unended_phrase Strong = UnendedStrong
unended_phrase Emphasis = UnendedEmphasis
unended_phrase Literal = UnendedLiteral
unended_phrase Target = UnendedTarget
unended_phrase Substitution = UnendedSubstitution
unended_phrase Interpreted = UnendedInterpreted

-- a role that isn't known, which gives an error
abbrev pub unknown_role : List ℕ → Meaning
unknown_role name = Wrong Error (codes "Unknown interpreted text role \"" ++ name ++ codes "\".")

-- a role for raw data, which gives an error: no output format is named
abbrev pub raw_role : List ℕ → Meaning
raw_role name = Wrong Error (codes "No format (Writer name) is associated with this role: \"" ++ name
    ++ codes "\".\nThe \"raw\" role cannot be used directly.\nInstead, use the \"role\" directive to create a new role with an associated format.")

-- a role that is known, but makes nothing, which gives an error
abbrev pub unimplemented_role : List ℕ → Meaning
unimplemented_role name = Wrong Error (codes "Interpreted text role \"" ++ name ++ codes "\" not implemented.")

-- roles before and after, which give a warning
abbrev pub two_roles : Meaning
two_roles = Wrong Warning (codes "Multiple roles in interpreted text (both prefix and suffix present; only one allowed).")

-- a role before and underscores after, which give a warning
abbrev pub role_mismatch : Meaning
role_mismatch = Wrong Warning (codes "Mismatch: both interpreted text role and reference suffix.")

-- ---- kinds of pieces

-- the node of a plain text, if there is one
abbrev pub plain_meaning : Option (List ℕ) → Meaning
plain_meaning None = Nothing
plain_meaning (Some text) = One (Words text)

-- plain text without its escapes, which gives no node where nothing is left of it
abbrev pub plain_reading : Text → Meaning
plain_reading [] = Nothing
plain_reading (c ∷ cs) = One (Words (text_bytes (c ∷ cs)))

-- a reference, and the target that it leaves
abbrev pub leaving : Node → Node → Meaning
leaving reference target = Two (forest_of (reference ∷ target ∷ []))

-- A phrase with an embedded alias refers to a name, one with an embedded URI to that. It leaves a target, too, unless it is anonymous; for an alias
-- only if that is asked for.
abbrev pub embedded_reading : Bool → Suffix → Text → Text → Text → Bool → ℕ → Meaning
embedded_reading asked Named source display_text meaning true line =
    let reference = reference_node Named source display_text meaning line in if asked then leaving reference (alias_target_node display_text meaning line) else One reference
embedded_reading asked suffix source display_text meaning true line = One (reference_node Named source display_text meaning line)
embedded_reading asked Named source display_text meaning false line = leaving (embedded_node source display_text meaning line) (uri_target_node display_text meaning line)
embedded_reading asked suffix source display_text meaning false line = One (embedded_node source display_text meaning line)

-- a phrase that is a reference, with the place of what is embedded in it, if there is something
abbrev pub phrase_reading_at : Parts → Suffix → Text → Text → Option ℕ → ℕ → Meaning
phrase_reading_at parts suffix source phrase (Some k) line =
    embedded_reading parts.unmarked suffix source (phrase_display_text parts.mail phrase k) (meant parts.mail (enclosed phrase k)) (is_alias (enclosed phrase k)) line
phrase_reading_at parts suffix source phrase None line = One (reference_node suffix source (unescaped phrase) (unescaped phrase) line)

-- a phrase that is a reference
abbrev pub phrase_reading : Parts → Suffix → Text → Text → ℕ → Meaning
phrase_reading parts suffix source phrase line = phrase_reading_at parts suffix source phrase (embedded_at phrase) line

-- interpreted text with a role of this name, from its source and its text as it is written
abbrev pub role_reading_by : Option Role → List ℕ → Text → Text → ℕ → Meaning
role_reading_by (Some (Element tag)) name source written line = One (text_element tag [] (unescaped written) line)
role_reading_by (Some Pep) name source written line = pep_reading source (unescaped written) line
role_reading_by (Some Rfc) name source written line = rfc_reading source (unescaped written) line
role_reading_by (Some Math) name source written line = One (text_element tag.Math [] written line)
role_reading_by (Some Code) name source written line = One (code_node written line)
role_reading_by (Some Raw) name source written line = raw_role name
role_reading_by (Some Unimplemented) name source written line = unimplemented_role name
role_reading_by None name source written line = unknown_role name

-- interpreted text whose role of this name is handed back: its source text
abbrev pub handed_role : List ℕ → Text → ℕ → Meaning
handed_role name source line = One (handed_node (codes "role") name source line)

-- interpreted text with a role, by the parts of the wider profile that hold
abbrev pub role_reading : Parts → Text → Text → Text → ℕ → Meaning
role_reading parts role source written line =
    if hands_role parts (text_bytes role) then handed_role (text_bytes role) source line
    else role_reading_by (role_named parts.roles (text_bytes role)) (text_bytes role) source written line

-- A role comes before interpreted text: the content begins further from the piece's place than one backquote.
abbrev pub has_prefix_role : Piece → Bool
has_prefix_role p = nat_lt (p.from + 1) p.content_from

-- the role before the backquote
abbrev pub prefix_role : Text → Piece → Text
prefix_role t p = part t (p.from + 1) (p.content_from - 2)

-- the role after the backquote
abbrev pub suffix_role : Text → Piece → Text
suffix_role t p = part t (p.content_to + 2) (p.to - 1)

-- interpreted text with the default role: a title reference, unless the role without a name is handed back
abbrev pub default_reading : Parts → Text → Text → ℕ → Meaning
default_reading parts source written line =
    if hands_role parts [] then handed_role [] source line else One (text_element tag.TitleReference [] (unescaped written) line)

-- Interpreted text has one role, before or after, or the default role, and then is no reference.
abbrev pub interpreted_reading : Parts → Bool → Suffix → Text → Piece → ℕ → Meaning
interpreted_reading parts true Bare t p line = role_reading parts (prefix_role t p) (source t p) (content t p) line
interpreted_reading parts true RoleAfter t p line = two_roles
interpreted_reading parts true Named t p line = role_mismatch
interpreted_reading parts true Anonymous t p line = role_mismatch
interpreted_reading parts false Bare t p line = default_reading parts (source t p) (content t p) line
interpreted_reading parts false RoleAfter t p line = role_reading parts (suffix_role t p) (source t p) (content t p) line
interpreted_reading parts false Named t p line = phrase_reading parts Named (source t p) (content t p) line
interpreted_reading parts false Anonymous t p line = phrase_reading parts Anonymous (source t p) (content t p) line

-- What a piece of a kind means, by the parts of the wider profile that hold. Markup with both its strings means what it encloses, without escapes unless it is a literal, in an element of
-- its kind. A start-string without an end gives a warning.
abbrev pub reading_by : Parts → Kind → Text → Piece → ℕ → Meaning
reading_by parts Plain t p line = plain_reading (unescaped (source t p))
reading_by parts (Marked Strong suffix) t p line = One (text_element tag.Strong [] (unescaped (content t p)) line)
reading_by parts (Marked Emphasis suffix) t p line = One (text_element tag.Emphasis [] (unescaped (content t p)) line)
reading_by parts (Marked Literal suffix) t p line = One (text_element tag.Literal [] (content t p) line)
reading_by parts (Marked Target suffix) t p line = One (inline_target_node (unescaped (content t p)) line)
reading_by parts (Marked Substitution suffix) t p line = One (substituted_node suffix (part t p.from (p.content_to + 1)) (source t p) (unescaped (content t p)) line)
reading_by parts (Marked Interpreted suffix) t p line = interpreted_reading parts (has_prefix_role p) suffix t p line
reading_by parts (Unended markup) t p line = Wrong Warning (phrase_text (unended_phrase markup))
reading_by parts Label t p line = One (label_reference_node (source t p) (content t p) line)
reading_by parts (Reference suffix) t p line = One (reference_node suffix (source t p) (content t p) (content t p) line)
reading_by parts Uri t p line = One (uri_node (source t p) (unescaped (source t p)) line)
reading_by parts Address t p line = One (address_node (source t p) (unescaped (source t p)) line)

-- what a piece means
unfoldable pub reading : Parts → Text → ℕ → Piece → Meaning
reading parts t line p = reading_by parts p.kind t p line
