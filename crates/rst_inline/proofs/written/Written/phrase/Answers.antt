use Rattle.std.proofs.Common.{◌≡◌, ◌<◌, ◌+◌, ◌∙◌, length, Some, ap, subst, IfOk}
use Rattle.std.specs.Str.{chars}
use Rattle.rst_text.specs.Characters.{Text}
use Rattle.rst_inline.specs.Embedded.{embedded_at, enclosed, is_alias, meant, phrase_display_text}
use Rattle.rst_inline.specs.Parts.{content, source}
use Rattle.rst_inline.proofs.EmbeddedLemmas.{enclosed-part, phrase-embedded}
use Rattle.rst_inline.proofs.written.Written.phrase.Goals as goal

pub returns-in-Some : goal.returns-in-Some
returns-in-Some c =
    let w = c.args.self.now in
    let t = w.characters.items in
    let p = c.args.piece in
    let place = c.in-Some.place in
    let phrase = c.part-phrase.ensures ∙ ap (λ (t : Text). content t p) c.deref.ensures.value in
    let inside : place + 2 < length (content t p) = subst (λ (phrase : Text). place + 2 < length phrase) phrase c.in-Some.ensures.below in
    let display_text = ap chars c.as_str.ensures.value ∙ c.in_ok-display_text.ensures ∙ ap (λ (phrase : Text). phrase_display_text w.parts.now.mail phrase place) phrase in
    let meaning = ap chars c.as_str-in-Some.ensures.value ∙ c.in_ok-meaning.ensures ∙ ap (meant w.parts.now.mail) (enclosed-part t p place c.requires inside) in
    let alias = c.is_alias-alias.ensures ∙ ap is_alias (c.part.ensures ∙ ap (λ (phrase : Text). enclosed phrase place) phrase) in
    let at : Some place ≡ embedded_at (content t p) = c.in-Some.ensures.exact ∙ ap embedded_at phrase in
    let is = phrase-embedded w.parts.now c.args.suffix (source t p) (content t p) _ _ _ place w.line _ c.part-source.ensures display_text meaning alias at in
    subst (λ m. IfOk c.embedded.result (λ reading. reading ≡ m)) is c.embedded.ensures
