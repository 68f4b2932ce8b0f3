use Rattle.std.proofs.Common.{◌≡◌, ◌∙◌, true, ap}
use Rattle.std.specs.Str.{chars}
use Rattle.rst_tree.specs.Nodes.{nodes_of}
use Rattle.rst_inline_scan.specs.Quiet.{quiet}
use Rattle.rst_inline_scan.proofs.QuietLemmas.{quiet-chars}
use Rattle.rst_inline.proofs.QuietLemmas.{quiet-read}
use Rattle.rst_inline.proofs.nodes.inline_from.Goals as goal

pub returns-then-is_quiet : goal.returns-then-is_quiet
returns-then-is_quiet c =
    let bytes : quiet c.args.parts.now.mail c.args.text.now ≡ true = cc in
    quiet-read c.args.parts.now (chars c.args.text.now) c.args.line c.args.first _ (quiet-chars c.args.parts.now.mail c.args.text.now c.utf8.text bytes) (c.into_list.ensures.nodes ∙ ap nodes_of c.in_ok-children.ensures) c.new.ensures.items
