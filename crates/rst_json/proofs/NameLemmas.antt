-- Each tag and each attribute is found by its name.
use Rattle.std.proofs.Common.{◌≡◌, ℕ, ◌+◌, ◌<◌, ◌≤◌, List, [], ◌∷◌, length, Bool, true, false, ◌==◌, Option, Some, None, refl, sym, ap, ◌∙◌, arith, eqb-true, subst, lit≤}
use Rattle.std.specs.Prelude.{◌&&◌}
use borrow.Author.Tests.{eqb-false}
use denote.Enum.Bare.{Bare, same_true, sameb, tag_one}
use denote.Enum.Declared.{Declared, tag_of, variants}
use denote.Enum.Enum.{tag_below}
use Rattle.std.proofs.lemmas.Bool.{and_parts}
use Rattle.rst_json.specs.Reader.{keys, key_named, tags, tag_named}
use Rattle.rst_tree.specs.contracts.key.Key as key
use Rattle.rst_tree.specs.contracts.tag.Tag as tag
use Rattle.rst_tree.specs.declared.key.Key.{Key}
use Rattle.rst_tree.specs.declared.tag.Tag.{Tag}
use Rattle.rst_tree.specs.KeyNames.{key_name}
use Rattle.rst_tree.specs.TagNames.{tag_name}

module _ (D : Declared) (bare : Bare D.parts) (found : D.D → Option D.D) where
  abbrev is_found : D.D → Option D.D → Bool
  is_found d None = false
  is_found d (Some e) = sameb D e d

  -- each of these is found; they are the values from a place on
  abbrev are_found : ℕ → List D.D → Bool
  are_found n [] = true
  are_found n (d ∷ ds) = (tag_of D d == n) && (is_found d (found d) && are_found (n + 1) ds)

  finds : (d : D.D) (o : Option D.D) → is_found d o ≡ true → o ≡ Some d
  finds d None h = cc
  finds d (Some e) h = ap Some (same_true D bare e d h)

  among : (ds : List D.D) (n : ℕ) (e : D.D) (here : Bool) → are_found n ds ≡ true → n ≤ tag_of D e → tag_of D e < n + length ds
      → (tag_of D e == n) ≡ here → found e ≡ Some e
  among [] n e here h low high is = absurd (omega arith)
  among (d ∷ ds) n e true h low high is =
      let first = and_parts (tag_of D d == n) (is_found d (found d) && are_found (n + 1) ds) h in
      let same : d ≡ e = tag_one D bare d e (eqb-true _ _ first.0 ∙ sym (eqb-true _ _ is)) in
      subst (λ z. found z ≡ Some z) same (finds d (found d) (and_parts (is_found d (found d)) (are_found (n + 1) ds) first.1).0)
  among (d ∷ ds) n e false h low high is =
      let first = and_parts (tag_of D d == n) (is_found d (found d) && are_found (n + 1) ds) h in
      let rest = (and_parts (is_found d (found d)) (are_found (n + 1) ds) first.1).1 in
      let other = eqb-false (tag_of D e) n is in
      among ds (n + 1) e (tag_of D e == (n + 1)) rest (omega (arith, other)) (omega arith) refl

  all_found : (ds : List D.D) → are_found 0 ds ≡ true → length (variants D) ≤ length ds → (e : D.D) → found e ≡ Some e
  all_found ds h long e = among ds 0 e (tag_of D e == 0) h (omega arith) (omega (arith, tag_below (variants D) (D.to e))) refl

tags_are_found : are_found tag.the_type tt (λ t. tag_named (tag_name t)) 0 tags ≡ true
unfolding tag_name tag_named
tags_are_found = refl

keys_are_found : are_found key.the_type tt (λ k. key_named (key_name k)) 0 keys ≡ true
unfolding key_name key_named
keys_are_found = refl

pub tag_found : (t : Tag) → tag_named (tag_name t) ≡ Some t
tag_found = all_found tag.the_type tt (λ t. tag_named (tag_name t)) tags tags_are_found (lit≤ tt)

pub key_found : (k : Key) → key_named (key_name k) ≡ Some k
key_found = all_found key.the_type tt (λ k. key_named (key_name k)) keys keys_are_found (lit≤ tt)
