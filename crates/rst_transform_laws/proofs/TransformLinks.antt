-- What is written back of links adds at most one level, and keeps a property of texts that the changes have, too.
use Rattle.std.proofs.Common.{ℕ, Bool, ◌+◌, ◌-◌, ◌≤◌, max, List, [], ◌∷◌, Option, Some, None, length, arith, refl}
use Rattle.std.specs.Prelude.{nat_eq}
use Rattle.std.specs.List.{AllByRecursion}
use Rattle.std.specs.Option.{IfSome}
use Rattle.std.proofs.lemmas.Bool.{cond_both}
use Rattle.rst_tree.specs.declared.attrs.Attr.{Attr}
use Rattle.rst_tree.specs.declared.attrs.Value.TheVariants.{List as Listed}
use Rattle.rst_tree.specs.declared.key.Key.TheVariants.{Backrefs, Names, Rawsource}
use Rattle.rst_tree.specs.declared.rewriting.Rewrite.{Rewrite}
use Rattle.rst_tree.specs.declared.rewriting.Rewrite.TheVariants.{Keep, Replace}
use Rattle.rst_tree.specs.declared.node.Node.TheVariants.{Element}
use Rattle.rst_tree.specs.declared.tag.Tag.{Tag}
use Rattle.rst_tree.specs.Forest.{Forest, bare, element, words, height}
use Rattle.rst_tree.specs.Rewritten.{go_on, rewritten}
use Rattle.rst_tree_index.specs.LinkedTags.{is_linked_tag}
use Rattle.rst_transform_work.specs.declared.document.Document.{Document}
use Rattle.rst_transform_references.specs.declared.links.Change.{Change}
use Rattle.rst_transform_references.specs.declared.links.Change.TheVariants.{Stays, Lists, Failed}
use Rattle.rst_transform_references.specs.Changes.{change_next, change_of, changed_by, changed_document, changes_left, with_lead, with_new_text, with_texts}
use Rattle.rst_tree_laws.proofs.Have.{with_attr_has}
use Rattle.rst_transform_laws.proofs.Held.{DocumentHeld, ForestHeld, Held, held_joined}
use Rattle.rst_tree_laws.proofs.AnyTexts.{Anything, any, any_suited, attrs_any, value_any}
use Rattle.rst_transform_laws.proofs.AnyDocuments.{document_any}
use Rattle.rst_tree_laws.proofs.Lists.{all_each, all_drop}
use Rattle.rst_tree_laws.proofs.Properties.{Suited}
use Rattle.rst_transform_laws.proofs.ReportTexts.{value_or_empty_has}
use Rattle.rst_tree_laws.specs.Texts.{AttrsHave, ValueHas, becomes_text}

-- what holds of nothing, and of each thing with a property, holds of an optional thing with it
pub on_some : {A : Type 0} (Q : A → Type 0) (R : Option A → Type 0) → R None → ((x : A) → Q x → R (Some x)) → (o : Option A) → IfSome o Q → R o
on_some Q R none some o = elim o as (λ o. IfSome o Q → R o) [ None ↦ λ h. none | Some x ↦ some x ]

module _ (T : List ℕ → Type 0) where
  -- where something leads, if it leads anywhere
  abbrev pub LeadHas : Option Attr → Type 0
  LeadHas lead = IfSome lead (λ a. ValueHas T (becomes_text a.key) a.value)

  abbrev pub ChangeHas : Change → Type 0
  ChangeHas (Stays lead text) = LeadHas lead × IfSome text T
  ChangeHas (Lists names backrefs) = Unit {0}
  ChangeHas (Failed p inside) = AttrsHave T p

  abbrev pub ChangesHave : List Change → Type 0
  ChangesHave changes = AllByRecursion ChangeHas changes

  abbrev Small : Rewrite → Type 0
  Small (Replace n) = Held T 2 n
  Small (Keep t a l) = AttrsHave T a

  -- what is made of changes has few levels and texts with the property, and the changes that are left have it, too
  abbrev Makes : ℕ → (List Change → Forest × List Change) → Type 0
  Makes m made = (cs : List Change) → ChangesHave cs → ForestHeld T m (made cs).0 × ChangesHave (made cs).1

  go_held : (k m : ℕ) (w : Rewrite) (s : List Change) (inside following : List Change → Forest × List Change) → max 2 (k + 1) ≤ m → Small w → ChangesHave s → Makes k inside → Makes m following → Makes m (λ _. go_on w s inside following)
  go_held k m (Replace n) s inside following e w h i j _ _ = let more = j s h in (held_joined T m n (following s).0 (omega (arith, e, w.0), w.1) more.0, more.1)
  go_held k m (Keep t a l) s inside following e w h i j _ _ = let own = i s h in let more = j (inside s).1 own.1 in ((omega (arith, e, own.0.0, more.0.0), (w, own.0.1, more.0.1)), more.1)

module _ (P : ℕ → Bool) (T : List ℕ → Type 0) (s : Suited P T) where
  change_small : (cs : List Change) (t : Tag) (a : List Attr) (l : ℕ) → ChangesHave T cs → AttrsHave T a → Small T (changed_by cs t a l) × ChangesHave T (changes_left cs)
  change_small [] t a l h g = (g, tt)
  change_small (Stays lead text ∷ more) t a l h g =
      let led : AttrsHave T (with_lead lead a) = on_some _ (λ o. AttrsHave T (with_lead o a)) g (λ own k. with_attr_has T own.key own.value a k g) lead h.0.0 in
      (on_some T (λ o. Small T (with_new_text o t (with_lead lead a) l)) led (λ u k. (omega arith, (led, (k, tt)))) text h.0.1, h.1)
  change_small (Lists names ids ∷ more) t a l h g =
      let named : AttrsHave T (with_texts Names names a) = elim names as (λ us. AttrsHave T (with_texts Names us a)) [ [] ↦ g | ◌∷◌ u us ↦ with_attr_has T Names (Listed (u ∷ us)) a tt g ] in
      (elim ids as (λ us. AttrsHave T (with_texts Backrefs us (with_texts Names names a))) [ [] ↦ named | ◌∷◌ u us ↦ with_attr_has T Backrefs (Listed (u ∷ us)) _ tt named ], h.1)
  change_small (Failed p inside ∷ more) t a l h g = ((omega arith, (h.0, (value_or_empty_has P T s Rawsource a refl g, tt))), all_drop _ inside more h.1)

  rewritten_held : (m : ℕ) (f : Forest) → ForestHeld T m f → Makes T (m + 1) (λ cs. rewritten change_next change_of cs f)
  rewritten_held m bare h cs g = ((omega arith, tt), g)
  rewritten_held m (words t r) h cs g = let more = rewritten_held m r (omega (arith, h.0), h.1.1) cs g in ((omega (arith, more.0.0), (h.1.0, more.0.1)), more.1)
  rewritten_held m (element t a c l r) h cs g = let made = change_small cs t a l g h.1.0 in go_held T (m - 1 + 1) (m + 1) (change_of cs (Element t a c l)) _ _ _ (omega (arith, h.0)) (cond_both (is_linked_tag t) _ _ (Small T) (λ _. made.0) (λ _. h.1.0))
      (cond_both (is_linked_tag t) _ _ (ChangesHave T) (λ _. made.1) (λ _. g)) (rewritten_held (m - 1) c (omega (arith, h.0), h.1.1)) (rewritten_held m r (omega (arith, h.0), h.1.2)) cs g

  pub changed_held : (m : ℕ) (cs : List Change) (document : Document) → ChangesHave T cs → DocumentHeld T m document → DocumentHeld T (m + 1) (changed_document cs document)
  changed_held m cs document g h = cond_both (nat_eq (length cs) 0) _ _ (DocumentHeld T (m + 1)) (λ _. ((omega (arith, h.0.0), h.0.1), h.1)) (λ _. ((rewritten_held m document.children h.0 cs g).0, h.1))

change_any : (change : Change) → ChangeHas Anything change
change_any (Stays None None) = (tt, tt)
change_any (Stays (Some a) None) = (value_any (becomes_text a.key) a.value, tt)
change_any (Stays None (Some text)) = (tt, tt)
change_any (Stays (Some a) (Some text)) = (value_any (becomes_text a.key) a.value, tt)
change_any (Lists names backrefs) = tt
change_any (Failed p inside) = attrs_any p

pub links_low : (changes : List Change) (document : Document) → height (changed_document changes document).children ≤ height document.children + 1
links_low changes document =
    (changed_held any Anything any_suited (height document.children) changes document (all_each (ChangeHas Anything) changes change_any) (document_any document)).0.0
