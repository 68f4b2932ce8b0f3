use Rattle.std.proofs.Common.{◌≡◌, false, get_or, arith}
use Rattle.std.proofs.lemmas.List.{get_or_read}
use Rattle.std.specs.Char.{is_ascii_alphanumeric}
use Rattle.rst_inline_scan.proofs.words.word_end.Goals as goal

pub returns-then-not-is_ascii_alphanumeric : goal.returns-then-not-is_ascii_alphanumeric
returns-then-not-is_ascii_alphanumeric c =
    let same = get_or_read c.args.text.now _ _ (omega arith) c.index-text-at-then-not-is_ascii_lowercase.is 0 in
    let here : is_ascii_alphanumeric (get_or c.args.text.now c.loop-at.at 0) ≡ false = cc in
    record { above = omega arith; within = omega arith; letters = c.loop-at.invariant; stops = λ less. here }

pub returns : goal.returns
returns c = record { above = c.requires; within = omega arith; letters = λ k above below. c.loop-at.invariant k above (omega arith); stops = λ less. absurd (omega arith) }
