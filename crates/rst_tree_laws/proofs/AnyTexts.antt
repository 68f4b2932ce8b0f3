-- What holds of any texts holds of each tree, so that laws on levels need nothing of its texts.
use Rattle.std.proofs.Common.{◌≡◌, ℕ, Bool, true, false, List, refl}
use Rattle.std.specs.Prelude.{◌==◌}
use Rattle.std.specs.List.{slice_split}
use Rattle.std.specs.Str.{chars}
use Rattle.rst_text.specs.Block.{Block, Line}
use Rattle.rst_text.specs.Characters.{Text}
use Rattle.rst_tree.specs.declared.attrs.Attr.{Attr}
use Rattle.rst_tree.specs.declared.attrs.Value.{Value}
use Rattle.rst_tree.specs.declared.attrs.Value.TheVariants.{Text as TextValue}
use Rattle.rst_tree.specs.declared.node.Node.{Node}
use Rattle.rst_tree.specs.declared.node.Node.TheVariants.{Element, Text as Words}
use Rattle.rst_tree.specs.Forest.{Forest, bare, element, words}
use Rattle.rst_tree_laws.proofs.Lists.{all_each}
use Rattle.rst_tree_laws.proofs.Properties.{Suited}
use Rattle.rst_tree_laws.specs.Texts.{AttrsHave, BlockKept, Kept, NodeHas, TextsHave, ValueHas, becomes_text}

abbrev pub any : ℕ → Bool
any c = true

abbrev pub Anything : List ℕ → Type 0
Anything t = Unit {0}

pub any_kept : (cs : Text) → Kept any cs
any_kept cs = all_each (λ c. any c ≡ true) cs (λ c. refl)

pub block_any : (B : Block) → BlockKept any B
block_any B = all_each (λ (l : Line). Kept any l.text) B (λ l. any_kept l.text)

pub any_suited : Suited any Anything
any_suited = record {
  fixed = λ c e. refl;
  folds = λ c e. refl;
  encoded = λ cs h. tt;
  decoded = λ t h. any_kept (chars t);
  append = λ t u h k. tt;
  split = λ c t low h. all_each Anything (slice_split (λ x. x == c) t) (λ part. tt);
}

pub value_any : (b : Bool) (v : Value) → ValueHas Anything b v
value_any true (TextValue t) = tt
value_any true _ = tt
value_any false _ = tt

pub attrs_any : (attrs : List Attr) → AttrsHave Anything attrs
attrs_any attrs = all_each (λ (a : Attr). ValueHas Anything (becomes_text a.key) a.value) attrs (λ a. value_any (becomes_text a.key) a.value)

pub texts_any : (f : Forest) → TextsHave Anything f
texts_any bare = tt
texts_any (element t a c l r) = (attrs_any a, texts_any c, texts_any r)
texts_any (words t r) = (tt, texts_any r)

pub node_any : (n : Node) → NodeHas Anything n
node_any (Element t a c l) = (attrs_any a, texts_any c)
node_any (Words t) = tt
