-- Targets fit.
use Rattle.rst_inline.specs.Mail.{mailed}
use Rattle.std.proofs.Common.{ℕ, Bool, ◌≤◌, List, Option, None, Some, arith}
use Rattle.std.specs.Prelude.{encode_utf8_all}
use Rattle.std.specs.Option.{IfSome}
use Rattle.std.specs.Str.{chars}
use Rattle.rst_text.specs.Names.{name_of}
use Rattle.rst_tree.specs.declared.attrs.Attr.{Attr}
use Rattle.rst_tree.specs.declared.attrs.Value.TheVariants.{Text as TextValue}
use Rattle.rst_tree.specs.declared.key.Key.TheVariants.{Refname, Refuri}
use Rattle.rst_block_nodes.specs.Targets.{leading_attrs, name_attrs, target_node}
use Rattle.rst_block_nodes.specs.Values as values
use Rattle.rst_block_laws.proofs.DirectiveTexts.{target_has}
use Rattle.rst_block_laws.proofs.Fits.{Fits}
use Rattle.rst_tree_laws.proofs.Have.{with_attr_has}
use Rattle.rst_tree_laws.proofs.Properties.{Suited, name_in_has, name_kept, unescaped_kept}
use Rattle.rst_tree_laws.specs.Texts.{AttrsHave}

module _ (P : ℕ → Bool) (T : List ℕ → Type 0) (s : Suited P T) where
  pub target_fits : (mail : Bool) (j : ℕ) → 1 ≤ j → (o : Option (List ℕ)) (t : List ℕ) (line : ℕ) → IfSome o T → T t → Fits T j (target_node mail o t line)
  target_fits mail j some o t line h k =
      let attrs : List Attr = name_attrs o in
      let own = by o h in
      let leading = target_has P T s (λ d. AttrsHave T (leading_attrs mail attrs d)) (chars t) (s.decoded t k) own
      (λ name kept. with_attr_has T Refname (TextValue (encode_utf8_all (name_of name))) attrs (s.encoded _ (name_kept P T s name kept)) own) (λ uri. with_attr_has T Refuri (TextValue (encode_utf8_all (mailed mail uri))) attrs tt own) in
      (omega arith, (leading, tt))
    where
      by : (o : Option (List ℕ)) → IfSome o T → AttrsHave T (name_attrs o)
      by None h = (tt, tt)
      by (Some written) h = (name_in_has P T s (values.unescaped written) (s.encoded _ (unescaped_kept P (chars written) (s.decoded written h))), tt)
