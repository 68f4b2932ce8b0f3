use Rattle.std.proofs.Common.{◌≡◌, ◌∙◌, true}
use Rattle.std.specs.Prelude.{nat_lt}
use Rattle.std.proofs.lemmas.Bool.{ltb-true}
use Rattle.rst_text.proofs.CharacterLemmas.{is_alphanumeric-ascii}
use Rattle.rst_text.proofs.characters.is_alphanumeric.Goals as goal

pub returns-then-is_ascii : goal.returns-then-is_ascii
returns-then-is_ascii c =
    let low : nat_lt c.args.c 128 ≡ true = cc in c.is_ascii_alphanumeric.ensures.value ∙ is_alphanumeric-ascii c.args.c (ltb-true c.args.c 128 low)
