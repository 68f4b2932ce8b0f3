use Rattle.std.proofs.Common.{◌∙◌, sym, ap, arith}
use Rattle.std.proofs.Math.Utf8.{encodes}
use Rattle.std.proofs.lemmas.Str.{encodes-chars}
use Rattle.rst_text.proofs.Cuts.{in_view}
use Rattle.rst_text.proofs.view.View.uncut.Goals as goal

pub overflow_add-self : goal.overflow_add-self
overflow_add-self c = omega (arith, in_view c.args.self.now c.args.i c.requires, c.args.self.now.few)

pub line-requires : goal.line-requires
line-requires c = in_view c.args.self.now c.args.i c.requires

pub returns : goal.returns
returns c = sym (encodes-chars c.line.result.now c.line.utf8) ∙ ap encodes c.line.ensures
