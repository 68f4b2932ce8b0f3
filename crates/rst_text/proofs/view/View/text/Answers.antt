use Rattle.std.proofs.Common.{◌≡◌, ◌+◌, drop, sym, ap, ◌∙◌, subst, cond, eqb}
use Rattle.std.specs.Str.{chars, IsUtf8}
use Rattle.std.proofs.Math.Utf8.{encodes}
use Rattle.rst_text.specs.Block.{first_text}
use Rattle.rst_text.proofs.Cuts.{text_in_view, utf8_in_view}
use Rattle.rst_text.proofs.view.View.text.Goals as goal

pub tail-requires : goal.tail-requires
tail-requires c =
    let v = c.args.self.now in
    let e : drop (cond (eqb c.args.i 0) v.first v.rest) (encodes (first_text (drop (v.from + c.args.i) v.lines.now))) ≡ drop c.cut_at.result c.uncut.result.now =
    ap (λ n. drop n (encodes (first_text (drop (v.from + c.args.i) v.lines.now)))) (sym c.cut_at.ensures) ∙ ap (drop c.cut_at.result) (sym c.uncut.ensures) in
    subst IsUtf8 e (utf8_in_view v c.args.i c.requires)

pub returns : goal.returns
returns c =
    let v = c.args.self.now in
    ap chars c.tail.ensures ∙ ap (λ t. chars (drop c.cut_at.result t)) c.uncut.ensures ∙ ap (λ n. chars (drop n (encodes (first_text (drop (v.from + c.args.i) v.lines.now))))) c.cut_at.ensures
    ∙ sym (text_in_view v c.args.i c.requires)
