-- What becomes of a topic by the entries that were made for it.
use Rattle.std.proofs.Common.{◌≡◌, ◌∙◌, ℕ, ◌≤◌, List, [], ◌∷◌, ◌++◌, length, Some, sym, ap, refl, subst, arith}
use Rattle.std.specs.Prelude.{if◌then◌else◌, is_some}
use Rattle.rst_tree.specs.declared.attrs.Attr.{Attr}
use Rattle.rst_tree.specs.declared.key.Key.TheVariants.{Local}
use Rattle.rst_tree.specs.declared.node.Node.{Node}
use Rattle.rst_tree.specs.declared.node.Node.TheVariants.{Element}
use Rattle.rst_tree.specs.declared.tag.Tag.TheVariants.{Topic}
use Rattle.rst_tree.specs.Attributes.{value_of}
use Rattle.rst_tree.specs.Forest.{Forest}
use Rattle.rst_transform_contents.specs.declared.entries.Backlinks.{Backlinks}
use Rattle.rst_transform_contents.specs.declared.entries.Tables.{Tables}
use Rattle.rst_transform_contents.specs.Contents.{place_of, tabled, topic, topic_by, with_list, Becomes}
use Rattle.rst_transform_contents.specs.Entries.{backlinks_of, entries, levels_of, Gives, Holds, Left}

-- a topic with entries
pub tabled_some : (a : List Attr) (c : Forest) (l : ℕ) (made : List Node) → 1 ≤ length made → tabled a c l made ≡ Element Topic a (with_list c made) l ∷ []
tabled_some a c l [] some = absurd (omega (arith, some))
tabled_some a c l (n ∷ ns) some = refl

pub none_of : (made : List Node) → length made ≤ 0 → made ≡ []
none_of [] none = refl
none_of (n ∷ ns) none = absurd (omega (arith, none))

module _ (a : List Attr) (c : Forest) (l : ℕ) (root here : Forest) (place : List Attr) (is : place_of c ≡ Some place) where
  module _ (backlinks : Backlinks) (k : ℕ) (o : Forest) (bi : backlinks ≡ backlinks_of a place) (ki : k ≡ levels_of place) (oi : o ≡ (if is_some (value_of Local place) then here else root)) where
    topic_is : (left : Left) → topic a c l root here left ≡ (tabled a c l (entries backlinks k o left).0, (entries backlinks k o left).1)
    topic_is left =
        ap (λ p. topic_by p a c l root here left) is
        ∙ ap (λ b. (tabled a c l (entries b (levels_of place) (if is_some (value_of Local place) then here else root) left).0, (entries b (levels_of place) (if is_some (value_of Local place) then here else root) left).1)) (sym bi)
        ∙ ap (λ j. (tabled a c l (entries backlinks j (if is_some (value_of Local place) then here else root) left).0, (entries backlinks j (if is_some (value_of Local place) then here else root) left).1)) (sym ki)
        ∙ ap (λ f. (tabled a c l (entries backlinks k f left).0, (entries backlinks k f left).1)) (sym oi)

    pub topic_becomes : (old new : Tables) (made put more : List Node) → Gives (entries backlinks k o) old new made → more ≡ put ++ tabled a c l made → Becomes (topic a c l root here) old new put more
    topic_becomes old new made put more gives is_more left h =
        let g = gives left h in (
          is_more ∙ ap (λ m. put ++ tabled a c l m) g.0 ∙ ap (λ (d : List Node × Left). put ++ d.0) (sym (topic_is left)),
          subst (Holds new) (ap (λ (d : List Node × Left). d.1) (sym (topic_is left))) g.1,
        )
