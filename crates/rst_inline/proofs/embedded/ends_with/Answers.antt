use Rattle.std.proofs.Common.{◌≡◌, ◌-◌, ◌&&◌, not, length, refl, sym, ◌∙◌, arith, ap}
use Rattle.std.proofs.lemmas.List.{get_or_read}
use Rattle.rst_text.specs.Characters.{has}
use Rattle.rst_text.specs.Escapes.{escapes, is_escaped}
use Rattle.rst_text.proofs.EscapeLemmas.{is_escaped-start, is_escaped-more}
use Rattle.rst_inline.proofs.EmbeddedLemmas.{ends_with-is}
use Rattle.rst_inline.proofs.embedded.ends_with.Goals as goal

pub returns-then-not-has : goal.returns-then-not-has
returns-then-not-has c =
    let t = c.args.text.now in
    let end = c.saturating_sub-last.result in
    let last : end ≡ length t - 1 = omega arith in
    ap (λ b. b && not (is_escaped t 0 end)) (sym c.if-not-has.true ∙ c.has.ensures) ∙ ends_with-is t c.args.c end (is_escaped t 0 end) last refl

pub loop-place-init : goal.loop-place-init
loop-place-init c = sym (is_escaped-start c.args.text.now 0)

pub loop-place-preserved : goal.loop-place-preserved
loop-place-preserved c =
    c.escapes-escaped.ensures ∙ ap (λ x. escapes x c.loop-place.escaped) (get_or_read c.args.text.now _ _ (omega arith) c.index-text-place.is 0) ∙ ap (escapes _) c.loop-place.invariant
    ∙ sym (is_escaped-more c.args.text.now 0 c.loop-place.place (omega arith))

pub returns : goal.returns
returns c =
    let t = c.args.text.now in
    let end : c.saturating_sub-last.result ≡ c.loop-place.place = omega arith in
    let last : c.loop-place.place ≡ length t - 1 = omega arith in
    ap (λ b. b && not c.loop-place.escaped) (sym c.if-not-has.false ∙ c.has.ensures ∙ ap (λ n. has t n c.args.c) end) ∙ ends_with-is t c.args.c c.loop-place.place c.loop-place.escaped last c.loop-place.invariant
