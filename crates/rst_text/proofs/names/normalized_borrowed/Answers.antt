use Rattle.std.proofs.Common.{◌∙◌}
use Rattle.std.proofs.lemmas.List.{map-id}
use Rattle.std.specs.Str.{chars}
use Rattle.rst_text.specs.Names.{normalized_white}
use Rattle.rst_text.proofs.names.normalized_borrowed.Goals as goal

pub returns : goal.returns
returns c = c.in_ok-spaced.ensures ∙ map-id (normalized_white (chars c.args.text.now))
