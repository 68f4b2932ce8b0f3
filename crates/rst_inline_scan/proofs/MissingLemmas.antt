-- What is remembered stays true.
use Rattle.std.proofs.Common.{◌≡◌, inl, inr, ℕ, ◌<◌, ◌≤◌, [], ◌∷◌, length, get_or, set, refl, sym, ap, subst, ◌∙◌, arith}
use Rattle.std.proofs.lemmas.Bool.{cases_eq}
use Rattle.std.proofs.lemmas.Grind.{get_or-set_at}
use Rattle.std.proofs.lemmas.List.{get_or-set_other}
use Rattle.rst_text.specs.Characters.{Text}
use Rattle.rst_inline_scan.specs.Missing.{code, IsUnended, IsMissing, HasNoAddress}
use Rattle.rst_inline_scan.specs.declared.piece.Markup.{Markup}
use Rattle.rst_inline_scan.specs.declared.piece.Markup.TheVariants.{Strong, Emphasis, Literal, Target, Substitution, Interpreted}
use Rattle.rst_inline_scan.specs.declared.missing.Missing.{Missing}
use Rattle.rst_inline_scan.proofs.MarkedLemmas.{start-fits, start-some}

-- there is no start-string past the end
pub none-past : (markup : Markup) (t : Text) → IsUnended markup t (length t)
none-past markup t i q order past mark = absurd (let l = start-fits markup t q mark in let some = start-some markup in omega arith)

-- the markup with a code
abbrev with_code : ℕ → Markup
with_code n = get_or (Strong ∷ Emphasis ∷ Literal ∷ Target ∷ Substitution ∷ Interpreted ∷ []) n Strong

coded : (markup : Markup) → with_code (code markup) ≡ markup
coded Strong = refl
coded _ = refl

-- a list of the same for all markup
pub alike : (markup : Markup) (n : ℕ) → get_or (n ∷ n ∷ n ∷ n ∷ n ∷ n ∷ []) (code markup) 0 ≡ n
alike Strong n = refl
alike _ n = refl

pub IsMissing-with : (markup : Markup) (t : Text) (missing : Missing) (place q n : ℕ) → IsMissing t missing place → IsUnended markup t q → n ≡ code markup → n < length missing.unended
    → IsMissing t (record missing { unended = set missing.unended n q }) place
IsMissing-with markup t missing place q n known h is inside = record {
  unended = λ other. elim (cases_eq n (code other)) [
    | inl same ↦
        let one : markup ≡ other = sym (coded markup) ∙ ap with_code (sym is ∙ same) ∙ coded other in
        rw (get_or-set_at missing.unended n (code other) q 0 (sym same) inside) (subst (λ (m : Markup). IsUnended m t q) one h)
    | inr apart ↦ rw (get_or-set_other missing.unended n (code other) q 0 (λ e. apart (sym e))) (known.unended other)
  ];
  names = known.names;
  uris = known.uris;
}

pub IsMissing-later : (t : Text) (missing : Missing) (place next : ℕ) → place ≤ next → IsMissing t missing place → IsMissing t missing next
IsMissing-later t missing place next h known = record {
  unended = known.unended;
  names = λ i above below. known.names i (omega arith) below;
  uris = λ i above below. known.uris i (omega arith) below;
}

pub HasNoAddress-later : (t : Text) (place next searched : ℕ) → place ≤ next → HasNoAddress t place searched → HasNoAddress t next searched
HasNoAddress-later t place next searched h known = λ i above below. known i (omega arith) below
