use Rattle.std.proofs.Common.{string_bytes, sym, ◌∙◌}
use Rattle.std.proofs.lemmas.List.{append-nil, drop_all}
use Rattle.std.proofs.lemmas.Str.{IsUtf8-string_bytes}
use Rattle.rst_text.proofs.Ids.{chars-made}
use Rattle.rst_markup_directives.proofs.characters.text_from.Goals as goal

pub returns : goal.returns
returns c =
    chars-made _ _ (IsUtf8-string_bytes c.loop-c.text) (sym (append-nil (string_bytes c.loop-c.text)) ∙ rw (drop_all c.loop-c.c-index c.args.characters.now c.loop-c-test.false) at c.loop-c.invariant)
