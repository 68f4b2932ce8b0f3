-- One transform after another.
use Rattle.std.proofs.Common.{◌≡◌, ◌∙◌, Bool, true, false, Option, Some, refl, sym, subst, ap}
use Rattle.std.proofs.Math.Logic.{∥∥₁_elim}
use mathlib.Core.Bool.{Bool-set}
use Rattle.rst_tree.specs.declared.node.Node.{Node}
use Rattle.rst_tree.specs.declared.node.Node.TheVariants.{Element, Text}
use Rattle.rst_transform_names.proofs.RegisteredRoot.{kind_of}
use Rattle.rst_transform_work.specs.declared.context.Context.{Context}
use Rattle.rst_transform_work.specs.Known.{Holds, Known, Makes}
use Rattle.rst_tree.specs.declared.tag.Tag.{Tag}
use Rattle.rst_tree.specs.declared.tag.Tag.TheVariants.{Document as DocumentTag}
use Rattle.rst_tree.specs.Nodes.{node_tag, IsDocument}
use Rattle.rst_tree_index.specs.Parsed.{IsParsed}

pub makes_then : {A B : Type 0} (f : Known → A × Known) (g : A → Known → B × Known) (old mid new : Context) (one : A) (other : B) → Makes f old mid one → Makes (g one) mid new other
    → Makes (λ known. g (f known).0 (f known).1) old new other
makes_then f g old mid new one other first second known h =
    let done = first known h in subst (λ x. (other ≡ (g x (f known).1).0) × Holds new (g x (f known).1).1) done.0 (second (f known).1 done.1)

-- a node of which a registered document is made is a document if that was one
tag_is : (n : Node) → node_tag n ≡ kind_of n
tag_is (Element t a c l) = refl
tag_is (Text t) = refl

pub same_kind : (done root document : Node) → done ≡ root → kind_of root ≡ kind_of document → IsDocument document → IsDocument done
same_kind done root document is same document_is = ap node_tag is ∙ tag_is root ∙ same ∙ sym (tag_is document) ∙ document_is

-- what was read is a document
abbrev is_document : Option Tag → Bool
is_document (Some DocumentTag) = true
is_document _ = false

document_from : (tag : Option Tag) → is_document tag ≡ true → tag ≡ Some DocumentTag
document_from (Some DocumentTag) e = refl
document_from _ e = absurd cc

pub parsed_document : (n : Node) → ∥ IsParsed n ∥₁ → IsDocument n
parsed_document n parsed = document_from (node_tag n) (∥∥₁_elim parsed (Bool-set _ _) (λ is. ap is_document is.kind))
