-- A line of a kind fulfils the condition of that kind's row.
use Rattle.std.proofs.Common.{◌≡◌, true, false, List, [], ◌∷◌, None, ap, sym, ◌∙◌, refl}
use Rattle.std.specs.Prelude.{is_some}
use Rattle.rst_text.specs.Block.{Block, first_text}
use Rattle.rst_markup_lines.specs.ExplicitMarks.{dots, underscores}
use Rattle.rst_markup_blocks.specs.Explicit.{is_explicit_kind}
use Rattle.rst_markup_blocks.specs.Kinds.{row_holds, kinds, first_kind, kind_at}
use Rattle.rst_markup_blocks.specs.declared.kind.Kind.{Kind}
use Rattle.rst_markup_blocks.specs.declared.kind.Kind.TheVariants.{Explicit as ExplicitKind, Anonymous as AnonymousKind}
use Rattle.std.proofs.lemmas.Bool.{cond_both}

-- the row of the first kind whose row holds, or that of a text, holds
row_of_first : (ks : List Kind) (X : Block) → row_holds (first_kind ks X) X ≡ true
unfolding first_kind
row_of_first [] X = refl
row_of_first (k ∷ ks) X = cond_both (row_holds k X) k (first_kind ks X) (λ j. row_holds j X ≡ true) (λ e. e) (λ _. row_of_first ks X)

pub row_of_kind : (X : Block) → row_holds (kind_at X) X ≡ true
unfolding kind_at
row_of_kind X = row_of_first kinds X

pub row_at : (k : Kind) (X : Block) → k ≡ kind_at X → row_holds k X ≡ true
row_at k X e = rw e (row_of_kind X)

explicit_begins : (k : Kind) (X : Block) → row_holds k X ≡ true → is_explicit_kind k ≡ true → dots (first_text X) ≡ None → is_some (underscores (first_text X)) ≡ true
explicit_begins ExplicitKind X h q e = let no : false ≡ true = sym (ap is_some e) ∙ h in cc
explicit_begins AnonymousKind X h q e = h
explicit_begins _ X h q e = cc

-- a line of such a kind that doesn't begin with dots begins with underscores
pub kind_underscores : (X : Block) → is_explicit_kind (kind_at X) ≡ true → dots (first_text X) ≡ None → is_some (underscores (first_text X)) ≡ true
kind_underscores X q e = explicit_begins (kind_at X) X (row_of_kind X) q e
