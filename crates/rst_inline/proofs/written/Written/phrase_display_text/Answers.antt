use Rattle.std.proofs.Common.{◌≡◌, ◌+◌, ◌-◌, ◌<◌, ◌≤◌, ◌∙◌, false, IfOk, cond, ◌==◌, length, sym, ap, subst, arith}
use Rattle.std.specs.Cow.{cow_str_bytes}
use Rattle.std.specs.Str.{chars}
use Rattle.std.proofs.lemmas.Bool.{ne_eqb}
use Rattle.rst_text.specs.Characters.{Text}
use Rattle.rst_text.specs.Escapes.{unescaped}
use Rattle.rst_inline.specs.Embedded.{dark_end, enclosed, meant, phrase_display_text}
use Rattle.rst_inline.specs.Parts.{part}
use Rattle.rst_inline.proofs.EmbeddedLemmas.{enclosed-part, before-part}
use Rattle.rst_inline.proofs.written.Written.phrase_display_text.Goals as goal

pub returns-then-place-eq0 : goal.returns-then-place-eq0
returns-then-place-eq0 c =
    let t = c.args.self.now.characters.items in
    let parts = c.args.self.now.parts.now in
    let p = c.args.piece in
    let phrase = c.args.phrase.now in
    let within = subst (λ (phrase : Text). 0 + 2 < length phrase) c.requires.phrase (subst (λ n. n + 2 < length phrase) c.if-place-eq0.true c.requires.place) in
    let zero : p.content_from + 1 ≡ p.content_from + 0 + 1 = omega arith in
    let is = ap (λ n. meant parts.mail (part t n (p.content_to - 1))) zero ∙ ap (meant parts.mail) (enclosed-part t p 0 c.requires.within within) ∙ ap (λ (phrase : Text). phrase_display_text parts.mail phrase 0) (sym c.requires.phrase) ∙ ap (phrase_display_text parts.mail phrase) (sym c.if-place-eq0.true) in
    subst (λ m. IfOk c.meant.result (λ display_text. chars (cow_str_bytes display_text) ≡ m)) is c.meant.ensures

pub returns : goal.returns
returns c =
    let t = c.args.self.now.characters.items in
    let parts = c.args.self.now.parts.now in
    let p = c.args.piece in
    let phrase = c.args.phrase.now in
    let place = c.args.place in
    let some : (place == 0) ≡ false = ne_eqb place 0 c.if-place-eq0.false in
    let below : c.dark_end-end.result ≤ length phrase = omega (arith, c.dark_end-end.ensures.below, c.requires.place) in
    let end = ap (λ n. unescaped (part phrase 0 n)) c.dark_end-end.ensures.exact in
    let is = ap unescaped (before-part t p c.dark_end-end.result c.requires.within (subst (λ (phrase : Text). c.dark_end-end.result ≤ length phrase) c.requires.phrase below))
    ∙ ap (λ (phrase : Text). unescaped (part phrase 0 c.dark_end-end.result)) (sym c.requires.phrase) ∙ end
    ∙ sym (ap (λ b. cond b (meant parts.mail (enclosed phrase place)) (unescaped (part phrase 0 (dark_end phrase place)))) some) in
    subst (λ m. IfOk c.unescaped.result (λ display_text. chars (cow_str_bytes display_text) ≡ m)) is c.unescaped.ensures
