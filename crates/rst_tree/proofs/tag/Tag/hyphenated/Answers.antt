use Rattle.std.proofs.Common.{◌≡◌, refl, ◌∙◌}
use Rattle.rst_tree.specs.TagNames.{hyphenated, tag_name}
use Rattle.rst_tree.specs.declared.tag.Tag.{Tag}
use Rattle.rst_tree.specs.declared.tag.Tag.TheVariants.{BlockQuote, BulletList, CitationReference, DefinitionList, DefinitionListItem, DoctestBlock, EnumeratedList, FieldBody, FieldList, FieldName, FootnoteReference, LineBlock, ListItem, LiteralBlock, MathBlock, OptionArgument, OptionGroup, OptionList, OptionListItem, OptionString, SubstitutionDefinition, SubstitutionReference, SystemMessage, TitleReference}
use Rattle.rst_tree.proofs.tag.Tag.hyphenated.Goals as goal

-- the other names have no underscore
plain : (t : Tag) → (t ≡ BlockQuote → ⊥) → (t ≡ BulletList → ⊥) → (t ≡ CitationReference → ⊥) → (t ≡ DefinitionList → ⊥) → (t ≡ DefinitionListItem → ⊥) → (t ≡ DoctestBlock → ⊥) → (t ≡ EnumeratedList → ⊥) → (t ≡ FieldBody → ⊥) → (t ≡ FieldList → ⊥) → (t ≡ FieldName → ⊥) → (t ≡ FootnoteReference → ⊥) → (t ≡ LineBlock → ⊥) → (t ≡ ListItem → ⊥) → (t ≡ LiteralBlock → ⊥) → (t ≡ MathBlock → ⊥) → (t ≡ OptionArgument → ⊥) → (t ≡ OptionGroup → ⊥) → (t ≡ OptionList → ⊥) → (t ≡ OptionListItem → ⊥) → (t ≡ OptionString → ⊥) → (t ≡ SubstitutionDefinition → ⊥) → (t ≡ SubstitutionReference → ⊥) → (t ≡ SystemMessage → ⊥) → (t ≡ TitleReference → ⊥) → tag_name t ≡ hyphenated (tag_name t)
unfolding tag_name
plain BlockQuote a b c d e f g h i j k l m n o p q r s t u v w x = absurd (a refl)
plain _ a b c d e f g h i j k l m n o p q r s t u v w x = search (a, b, c, d, e, f, g, h, i, j, k, l, m, n, o, p, q, r, s, t, u, v, w, x)

pub returns-in_default : goal.returns-in_default
returns-in_default c = c.name.ensures ∙ plain c.args.self c.in_default.not-BlockQuote c.in_default.not-BulletList c.in_default.not-CitationReference c.in_default.not-DefinitionList c.in_default.not-DefinitionListItem c.in_default.not-DoctestBlock c.in_default.not-EnumeratedList c.in_default.not-FieldBody c.in_default.not-FieldList c.in_default.not-FieldName c.in_default.not-FootnoteReference c.in_default.not-LineBlock c.in_default.not-ListItem c.in_default.not-LiteralBlock c.in_default.not-MathBlock c.in_default.not-OptionArgument c.in_default.not-OptionGroup c.in_default.not-OptionList c.in_default.not-OptionListItem c.in_default.not-OptionString c.in_default.not-SubstitutionDefinition c.in_default.not-SubstitutionReference c.in_default.not-SystemMessage c.in_default.not-TitleReference
