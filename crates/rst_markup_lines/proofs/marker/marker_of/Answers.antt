use Rattle.std.proofs.Common.{◌≡◌, drop, arith, true}
use Rattle.std.specs.Str.{chars}
use Rattle.rst_text.specs.Block.{indentation}
use Rattle.rst_markup_lines.specs.TextStart.{begins_with}
use Rattle.rst_markup_lines.proofs.TextLemmas.{indent_within}
use Rattle.rst_text.proofs.LinesLemmas.{length-chars}
use Rattle.rst_markup_lines.proofs.marker.marker_of.Goals as goal

pub overflow_add-result : goal.overflow_add-result
overflow_add-result c =
    let space : begins_with 32 (drop c.args.n (chars c.args.text.now)) ≡ true = cc in
    let same : c.indentation-spaces.result ≡ indentation (drop c.args.n (chars c.args.text.now)) = cc in
    omega (arith, indent_within c.args.n (chars c.args.text.now) space, length-chars c.args.text.now c.utf8.text, same)
