use Rattle.std.proofs.Common.{◌≡◌, rules}
use Rattle.std.specs.Prelude.{option_map, Some}
use Rattle.rst_transform_work.specs.Reading.{line_of}
use Rattle.rst_transform_references.specs.declared.chains.Answer.TheVariants.{Circular, Missing}
use Rattle.rst_transform_references.specs.Indirect.{circular_text, missing_text, own_name}
use Rattle.rst_transform_references.specs.Links.{node_at}
use Rattle.rst_transform_references.proofs.indirect.conclude.Goals as goal

pub returns-in_ok-fail_for-in-Some-Missing : goal.returns-in_ok-fail_for-in-Some-Missing
returns-in_ok-fail_for-in-Some-Missing c known h =
    let is : option_map (λ a. a.now) c.args.answer ≡ Some (Missing c.as_str.result.now) = search rules in
    let line : c.line_of-line.result ≡ line_of (node_at c.args.target c.args.links.now) = search rules in
    let text : c.in_ok-text-in-Some-Missing.text ≡ missing_text (own_name (node_at c.args.target c.args.links.now)) c.as_str.result.now = search rules in
    rw (is, ← line, ← text) (c.in_ok-fail_for-in-Some-Missing.ensures known h)

pub returns-in_ok-fail_for-in-Some-Circular : goal.returns-in_ok-fail_for-in-Some-Circular
returns-in_ok-fail_for-in-Some-Circular c known h =
    let is : option_map (λ a. a.now) c.args.answer ≡ Some Circular = search rules in
    let line : c.line_of-line.result ≡ line_of (node_at c.args.target c.args.links.now) = search rules in
    let text : c.new.result ≡ circular_text (own_name (node_at c.args.target c.args.links.now)) = search rules in
    rw (is, ← line, ← text) (c.in_ok-fail_for-in-Some-Circular.ensures known h)
