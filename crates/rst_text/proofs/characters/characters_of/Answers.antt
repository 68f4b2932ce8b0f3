use Rattle.std.proofs.Common.{◌≡◌, ◌∙◌, sym, subst, IfOk}
use Rattle.std.proofs.lemmas.Iterator.{YieldsList-from_chars, items_from_collect}
use Rattle.std.proofs.lemmas.Str.{chars-IsAscii}
use Rattle.rst_text.proofs.characters.characters_of.Goals as goal

pub returns-then-is_ascii : goal.returns-then-is_ascii
returns-then-is_ascii c =
    subst (λ bytes. IfOk c.ascii_characters.result (λ characters. characters.items ≡ bytes)) (c.as_bytes.ensures.value ∙ sym (chars-IsAscii c.args.text.now c.if-is_ascii.ensures.cases)) c.ascii_characters.ensures

pub returns : goal.returns
returns c = items_from_collect _ c.collect.ensures.ran (YieldsList-from_chars c.args.text.now c.utf8.text c.chars.ensures.rest)
