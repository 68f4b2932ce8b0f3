-- The document that links leave: what became of each of them is written into it.
use Rattle.std.specs.Prelude.{ℕ, List, [], ◌∷◌, drop, length, nat_eq, if◌then◌else◌, Option, Some, None}
use Rattle.rst_tree.specs.declared.attrs.Attr.{Attr}
use Rattle.rst_tree.specs.declared.attrs.Value.TheVariants.{List as Listed}
use Rattle.rst_tree.specs.declared.key.Key.{Key}
use Rattle.rst_tree.specs.declared.key.Key.TheVariants.{Backrefs, Names}
use Rattle.rst_tree.specs.declared.node.Node.{Node}
use Rattle.rst_tree.specs.declared.node.Node.TheVariants.{Element, Text}
use Rattle.rst_tree.specs.declared.rewriting.Rewrite.{Rewrite}
use Rattle.rst_tree.specs.declared.rewriting.Rewrite.TheVariants.{Keep, Replace}
use Rattle.rst_tree.specs.declared.tag.Tag.{Tag}
use Rattle.rst_tree.specs.declared.tag.Tag.TheVariants.{Problematic}
use Rattle.rst_tree.specs.Attributes.{with_attr}
use Rattle.rst_tree.specs.Forest.{bare, words}
use Rattle.rst_tree.specs.Rewritten.{kept, rewritten}
use Rattle.rst_tree_index.specs.LinkedTags.{is_linked_tag}
use Rattle.rst_transform_work.specs.declared.document.Document.{Document}
use Rattle.rst_transform_work.specs.Reading.{rawsource_of}
use Rattle.rst_transform_references.specs.declared.links.Change.{Change}
use Rattle.rst_transform_references.specs.declared.links.Change.TheVariants.{Stays, Lists, Failed}

-- the attributes with a lead, if there is one, and with texts that one of them lists, if there are some
abbrev pub with_lead : Option Attr → List Attr → List Attr
with_lead None attrs = attrs
with_lead (Some lead) attrs = with_attr lead.key lead.value attrs

abbrev pub with_texts : Key → List (List ℕ) → List Attr → List Attr
with_texts key [] attrs = attrs
with_texts key (text ∷ more) attrs = with_attr key (Listed (text ∷ more)) attrs

-- an element that stays, or has a text in place of its content
abbrev pub with_new_text : Option (List ℕ) → Tag → List Attr → ℕ → Rewrite
with_new_text None t a l = Keep t a l
with_new_text (Some text) t a l = Replace (Element t a (words text bare) l)

-- what the first change makes of an element; what failed becomes a problematic of its source text
abbrev pub changed_by : List Change → Tag → List Attr → ℕ → Rewrite
changed_by [] t a l = Keep t a l
changed_by (Stays lead text ∷ more) t a l = with_new_text text t (with_lead lead a) l
changed_by (Lists names backrefs ∷ more) t a l = Keep t (with_texts Backrefs backrefs (with_texts Names names a)) l
changed_by (Failed p inside ∷ more) t a l = Replace (Element Problematic p (words (rawsource_of a) bare) l)

-- the changes that are left after it: what is inside one that failed isn't met
abbrev pub changes_left : List Change → List Change
changes_left (Failed p inside ∷ more) = drop inside more
changes_left changes = drop 1 changes

abbrev pub change_of : List Change → Node → Rewrite
change_of s (Element t a c l) = if is_linked_tag t then changed_by s t a l else Keep t a l
change_of s (Text t) = kept (Text t)

abbrev pub change_next : List Change → Node → List Change
change_next s (Element t a c l) = if is_linked_tag t then changes_left s else s
change_next s (Text t) = s

-- a document whose elements changed, if some are linked
abbrev pub changed_document : List Change → Document → Document
changed_document s document = if nat_eq (length s) 0 then document else record document { children = (rewritten change_next change_of s document.children).0 }
