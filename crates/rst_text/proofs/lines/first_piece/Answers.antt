use Rattle.std.proofs.Common.{◌∙◌, length, refl, sym, subst, ap, arith, [], ◌∷◌, ◌++◌}
use Rattle.std.proofs.Math.Utf8.{encode}
use Rattle.std.specs.Str.{chars}
use Rattle.rst_text.specs.Lines.{pieces, is_line_end}
use Rattle.rst_text.proofs.Scanning.{Scans-step, NonePass-append, length-scanned, IsCharBoundary-scanned}
use Rattle.rst_text.proofs.LinesLemmas.{pieces-end, pieces-after_cr, pieces-scanned, pieces-whole}
use Rattle.rst_text.proofs.OrdinaryLemmas.{IsCharBoundary-ordinary, ScansLine, ScansLine-run, pieces-ordinary}
use Rattle.rst_text.proofs.lines.first_piece.Goals as goal

pub split_at-requires : goal.split_at-requires
split_at-requires c = IsCharBoundary-ordinary c.args.text.now c.ordinary_len.result c.ordinary_len.ensures

pub returns-in-Some-clause-pieces : goal.returns-in-Some-clause-pieces
returns-in-Some-clause-pieces c =
    let e = sym c.split_at.ensures.back ∙ c.in-Some.ensures.cases.1.split ∙ ap (λ l. encode 10 ++ l) (sym c.in-Some.ensures.cases.2) in
    pieces-ordinary c.args.text.now c.in-Some.after.now c.ordinary_len.result c.utf8.text c.ordinary_len.ensures e
    ∙ ap (λ l. chars l ∷ pieces (chars c.in-Some.after.now)) (sym c.split_at.ensures.front)

pub returns-in_default-next-clause-pieces : goal.returns-in_default-next-clause-pieces
returns-in_default-next-clause-pieces c =
    let s = ScansLine-run _ _ _ c.left.invariant c.ordinary_len-in-left.ensures in
    pieces-whole _ _ _ s.1.0 s.1.1 (ap length (sym (c.chars-rest.ensures.rest ∙ c.split_at-in-left.ensures.back)) ∙ c.in_default-next.ensures.steps.0.0) c.requires

pub split_at-requires-then-is_line_end : goal.split_at-requires-then-is_line_end
split_at-requires-then-is_line_end c =
    let s = ScansLine-run _ _ _ c.left.invariant c.ordinary_len-in-left.ensures in
    let e = sym (c.chars-rest.ensures.rest ∙ c.split_at-in-left.ensures.back) ∙ c.in-Some-next.ensures.steps.0 ∙ ap (λ l. encode c.in-Some-next.c ++ l) (sym c.as_str-after.ensures) in
    IsCharBoundary-scanned _ _ _ _ s.1.0 (omega (arith, length-scanned _ _ _ _ _ s.1.0 e, c.len_utf8.ensures.len))

pub returns-then-c-eq13-clause-pieces : goal.returns-then-c-eq13-clause-pieces
returns-then-c-eq13-clause-pieces c =
    let s = ScansLine-run _ _ _ c.left.invariant c.ordinary_len-in-left.ensures in
    let e = sym (c.chars-rest.ensures.rest ∙ c.split_at-in-left.ensures.back) ∙ c.in-Some-next.ensures.steps.0 ∙ ap (λ l. encode c.in-Some-next.c ++ l) (sym c.as_str-after.ensures) in
    let after = pieces-after_cr c.as_str-after.result c.unwrap_or.result c.strip_prefix-then-c-eq13.result c.as_str-after.utf8 c.strip_prefix-then-c-eq13.ensures.cases c.unwrap_or.ensures in
    pieces-scanned _ _ _ _ c.unwrap_or.result.now _ _ s.1.0 s.1.1 e c.len_utf8.ensures.len
    (ap (λ x. pieces (x ∷ chars c.as_str-after.result.now)) c.if-c-eq13.true ∙ after.0) ∙ ap (λ l. chars l ∷ pieces (chars c.unwrap_or.result.now)) (sym c.split_at-then-is_line_end.ensures.front)

pub returns-then-is_line_end-clause-pieces : goal.returns-then-is_line_end-clause-pieces
returns-then-is_line_end-clause-pieces c =
    let s = ScansLine-run _ _ _ c.left.invariant c.ordinary_len-in-left.ensures in
    let e = sym (c.chars-rest.ensures.rest ∙ c.split_at-in-left.ensures.back) ∙ c.in-Some-next.ensures.steps.0 ∙ ap (λ l. encode c.in-Some-next.c ++ l) (sym c.as_str-after.ensures) in
    pieces-scanned _ _ _ _ c.as_str-after.result.now _ _ s.1.0 s.1.1 e c.len_utf8.ensures.len
    (pieces-end _ (chars c.as_str-after.result.now) (sym c.if-is_line_end.ensures) c.if-c-eq13.false) ∙ ap (λ l. chars l ∷ pieces (chars c.as_str-after.result.now)) (sym c.split_at-then-is_line_end.ensures.front)

pub left-init : goal.left-init
left-init c =
    let start : ScansLine c.args.text.now c.args.text.now = ([], (record { bytes = refl; utf8 = c.utf8.text; scalar = refl }, tt)) in
    subst (ScansLine c.args.text.now) (sym c.split_at.ensures.back) (ScansLine-run _ _ _ start c.ordinary_len.ensures)

pub left-preserved : goal.left-preserved
left-preserved c =
    let s = ScansLine-run _ _ _ c.left.invariant c.ordinary_len-in-left.ensures in
    let e = sym (c.chars-rest.ensures.rest ∙ c.split_at-in-left.ensures.back) ∙ c.in-Some-next.ensures.steps.0 ∙ ap (λ l. encode c.in-Some-next.c ++ l) (sym c.as_str-after.ensures) in
    (_, (Scans-step _ _ _ _ _ s.1.0 e, NonePass-append is_line_end _ (c.in-Some-next.c ∷ []) s.1.1 (sym c.if-is_line_end.ensures, tt)))
