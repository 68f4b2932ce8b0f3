use Rattle.std.proofs.Common.{List, ℕ, ◌≡◌, ◌+◌, ◌∙◌, ◌++◌, ◌∷◌, [], ap, arith, length, length-append, string_bytes, subst, sym, true, ◌==◌}
use Rattle.std.specs.Str.{chars}
use Rattle.std.proofs.lemmas.Str.{IsUtf8-string_bytes}
use Rattle.std.proofs.lemmas.Bool.{eqb-true}
use Rattle.std.proofs.lemmas.List.{append-nil, nil_from_length}
use Rattle.rst_text.specs.Kept.{AreStarts, texts_in}
use Rattle.rst_text.proofs.KeptLemmas.{starts-added, texts-added}
use Rattle.rst_text.proofs.kept.Kept.push.Goals as goal

-- an empty text adds no bytes
same : (bytes text : List ℕ) → true ≡ (length text == 0) → bytes ++ text ≡ bytes
same bytes text none = ap (λ t. bytes ++ t) (nil_from_length text (eqb-true (length text) 0 (sym none))) ∙ append-nil bytes

pub invariant_of-self-in_default : goal.invariant_of-self-in_default
invariant_of-self-in_default c =
    let bytes : List ℕ = string_bytes c.self.inside.text in
    let end : c.len.result + length c.args.text.now ≡ length (bytes ++ c.args.text.now) = omega (arith, c.len.ensures, length-append bytes c.args.text.now) in
    rw (c.in_default.ensures.bytes, c.in_ok-push.ensures.items, end) (starts-added bytes c.args.text.now c.self.inside.starts.items (IsUtf8-string_bytes c.self.inside.text) c.utf8.text c.self.invariant)

pub returns : goal.returns
returns c =
    let bytes : List ℕ = string_bytes c.self.inside.text in
    let end : c.len.result + length c.args.text.now ≡ length (bytes ++ c.args.text.now) = omega (arith, c.len.ensures, length-append bytes c.args.text.now) in
    rw (c.in_default.ensures.bytes, c.in_ok-push.ensures.items, end) (texts-added bytes c.args.text.now c.self.inside.starts.items c.self.invariant ∙ ap (λ ts. ts ++ chars c.args.text.now ∷ []) c.self.view_is)

pub invariant_of-self-then-is_empty : goal.invariant_of-self-then-is_empty
invariant_of-self-then-is_empty c =
    let bytes : List ℕ = string_bytes c.self.inside.text in
    let end : c.len.result + length c.args.text.now ≡ length (bytes ++ c.args.text.now) = omega (arith, c.len.ensures, length-append bytes c.args.text.now) in
    let added : AreStarts (bytes ++ c.args.text.now) c.push.new.self.items =
    rw (c.in_ok-push.ensures.items, end) (starts-added bytes c.args.text.now c.self.inside.starts.items (IsUtf8-string_bytes c.self.inside.text) c.utf8.text c.self.invariant) in
    subst (λ b. AreStarts b c.push.new.self.items) (same bytes c.args.text.now c.if-is_empty.ensures) added

pub returns-then-is_empty : goal.returns-then-is_empty
returns-then-is_empty c =
    let bytes : List ℕ = string_bytes c.self.inside.text in
    let end : c.len.result + length c.args.text.now ≡ length (bytes ++ c.args.text.now) = omega (arith, c.len.ensures, length-append bytes c.args.text.now) in
    let added : texts_in (bytes ++ c.args.text.now) c.push.new.self.items ≡ texts_in bytes c.self.inside.starts.items ++ chars c.args.text.now ∷ [] =
    rw (c.in_ok-push.ensures.items, end) (texts-added bytes c.args.text.now c.self.inside.starts.items c.self.invariant) in
    ap (λ b. texts_in b c.push.new.self.items) (sym (same bytes c.args.text.now c.if-is_empty.ensures)) ∙ added ∙ ap (λ ts. ts ++ chars c.args.text.now ∷ []) c.self.view_is
