use Rattle.std.proofs.Common.{◌≡◌, ◌∙◌, ◌-◌, ◌%◌, ◌+◌, ◌++◌, length, rules, refl, sym, ap, arith}
use Rattle.std.proofs.Math.Utf8.{encode}
use Rattle.std.specs.Str.{chars}
use Rattle.std.proofs.lemmas.Str.{IsUtf8-string_bytes, chars_from_encodes, length-encode, len_utf8_bounds}
use Rattle.rst_text.proofs.Expanding.{Expands-char, Expands-tab, Expands-end}
use Rattle.rst_text.proofs.OrdinaryLemmas.{Expands-run, count-run}
use Rattle.rst_text.proofs.lines.expand.Goals as goal

pub returns-in_default : goal.returns-in_default
returns-in_default c =
    let x = Expands-run _ _ _ _ _ _ (chars c.args.piece.now) _ _ c.left.invariant.0 c.ordinary_len.ensures c.split_at.ensures.front refl c.in_ok-push_str.ensures.bytes in
    Expands-end _ _ _ _ c.args.piece.now x (ap length (sym (c.chars-rest.ensures.rest ∙ c.split_at.ensures.back)) ∙ c.in_default.ensures.steps.0.0) (IsUtf8-string_bytes c.push_str.new.self) (omega arith)

pub left-preserved-then-c-eq9 : goal.left-preserved-then-c-eq9
left-preserved-then-c-eq9 c =
    let counted : c.count-column.result ≡ length (chars c.split_at.result.0.now) = search (rules, chars_from_encodes) in
    let x = Expands-run _ _ _ _ _ _ (chars c.args.piece.now) _ _ c.left.invariant.0 c.ordinary_len.ensures c.split_at.ensures.front counted c.in_ok-push_str.ensures.bytes in
    let e = sym (c.chars-rest.ensures.rest ∙ c.split_at.ensures.back) ∙ c.in-Some.ensures.steps.0 ∙ ap (λ l. encode c.in-Some.c ++ l) (sym c.as_str-left.ensures) in
    let same : c.loop.counter ≡ c.args.tab - (c.left.column + c.count-column.result) % c.args.tab = omega arith in
    let tab = Expands-tab _ _ _ _ _ (chars c.args.piece.now) _ _ x e c.if-c-eq9.true refl in (
      rw (c.loop.invariant.0, same) tab,
      omega (arith, same, c.loop.invariant.1, c.left.invariant.1, c.in_ok-push_str.ensures.len, count-run _ _ _ _ c.left.invariant.0.utf8 c.ordinary_len.ensures c.split_at.ensures.front counted),
    )

pub left-preserved : goal.left-preserved
left-preserved c =
    let counted : c.count-column.result ≡ length (chars c.split_at.result.0.now) = search (rules, chars_from_encodes) in
    let x = Expands-run _ _ _ _ _ _ (chars c.args.piece.now) _ _ c.left.invariant.0 c.ordinary_len.ensures c.split_at.ensures.front counted c.in_ok-push_str.ensures.bytes in
    let e = sym (c.chars-rest.ensures.rest ∙ c.split_at.ensures.back) ∙ c.in-Some.ensures.steps.0 ∙ ap (λ l. encode c.in-Some.c ++ l) (sym c.as_str-left.ensures) in
    let next = Expands-char _ _ _ _ (chars c.args.piece.now) _ _ x e c.if-c-eq9.false in (
      rw (c.in_ok-push-2.ensures.bytes, c.plain.ensures) next,
      omega (
        arith,
        c.in_ok-push-2.ensures.len,
        length-encode c.plain.result,
        len_utf8_bounds c.plain.result,
        c.left.invariant.1,
        c.in_ok-push_str.ensures.len,
        count-run _ _ _ _ c.left.invariant.0.utf8 c.ordinary_len.ensures c.split_at.ensures.front counted,
      ),
    )
