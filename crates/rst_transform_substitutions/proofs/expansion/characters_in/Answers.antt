use Rattle.std.proofs.Common.{◌≡◌, ◌+◌, ap, length}
use Rattle.std.proofs.Common.{rules}
use Rattle.std.specs.Str.{chars}
use Rattle.std.proofs.lemmas.Str.{chars_from_encodes}
use Rattle.rst_transform_substitutions.proofs.expansion.characters_in.Goals as goal

pub returns-in-Text : goal.returns-in-Text
returns-in-Text c =
    let count : c.count.result ≡ length (chars c.in-Text.text) = search (rules, chars_from_encodes) in
    rw (c.in-Text.is) (ap (λ n. n + 1) count)
