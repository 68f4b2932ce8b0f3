use Rattle.std.proofs.Common.{◌≡◌, ◌∙◌, ℕ, ◌+◌, ◌-◌, ◌<◌, ◌≤◌, ap, arith, drop, length, not, subst, sym, take, true}
use Rattle.std.specs.Char.{is_ascii_whitespace}
use Rattle.std.specs.List.{after_last, suffix_len}
use Rattle.std.specs.Str.{IsCharBoundary}
use Rattle.std.proofs.lemmas.Bool.Decides.{nat_tests}
use Rattle.std.proofs.lemmas.Str.{IsCharBoundary-after_ascii}
use Rattle.std.proofs.lemmas.Str.Ascii.{trim_ascii_end_is}
use Rattle.rst2pseudoxml_run.proofs.marks.last_word.Goals as goal

-- a white character of ASCII takes one byte
low : (b : ℕ) → is_ascii_whitespace b ≡ true → b < 128
low b white = grind (arith, nat_tests)

pub range_from-requires : goal.range_from-requires
range_from-requires c = λ some.
    let kept = c.trim_ascii_end-text.result.now in
    let start = c.word_start.result in
    let white = rw c.as_bytes.ensures.value at c.word_start.ensures.white some in
    let within : start ≤ length kept = omega (arith, c.word_start.ensures.within, c.as_bytes.ensures.len) in
    let after : start - 1 + 1 ≡ start = omega (arith, some) in
    subst (IsCharBoundary kept) after (IsCharBoundary-after_ascii kept (start - 1) c.trim_ascii_end-text.utf8 (omega (arith, some, within)) (low _ white))

pub returns : goal.returns
returns c =
    let text = c.args.text.now in
    let kept : c.as_bytes.result.now ≡ take (length text - suffix_len is_ascii_whitespace text) text =
    c.as_bytes.ensures.value ∙ trim_ascii_end_is text c.trim_ascii_end-text.result.now c.trim_ascii_end-text.ensures.value in
    let word : c.range_from.result.now ≡ after_last is_ascii_whitespace c.as_bytes.result.now =
    c.range_from.ensures.value ∙ ap (λ n. drop n c.trim_ascii_end-text.result.now) c.word_start.ensures.value
    ∙ ap (drop (length c.as_bytes.result.now - suffix_len (λ (b : ℕ). not (is_ascii_whitespace b)) c.as_bytes.result.now)) (sym c.as_bytes.ensures.value) in
    word ∙ ap (after_last is_ascii_whitespace) kept
