use Rattle.std.proofs.Common.{◌≡◌, ◌*◌, ◌-◌, arith, refl, ◌∙◌, ap, replicate, ◌++◌}
use Rattle.std.proofs.lemmas.List.{take-replicate}
use Rattle.rst_tree.proofs.Sending.{◌▸◌, Sends-as, Sends-none}
use Rattle.rst_tree.proofs.PrintedParts.{indent_after}
use Rattle.rst_tree.proofs.output.put_indent.Goals as goal

pub loop-left-init : goal.loop-left-init
loop-left-init g c = record {
  within = omega arith;
  sent = let e : c.args.level - c.args.level ≡ 0 = omega arith in Sends-as (Sends-none _ _) (rw e refl);
}

pub loop-left-preserved : goal.loop-left-preserved
loop-left-preserved g c = record {
  within = omega arith;
  sent = Sends-as (c.loop-left.invariant.sent ▸ c.put.ensures) (indent_after (c.args.level - c.loop-left.left) 16 (c.args.level - (c.loop-left.left - 16)) (omega arith));
}

pub returns : goal.returns
returns g c =
    Sends-as (c.loop-left.invariant.sent ▸ c.put-2.ensures)
    (
    ap (λ l. replicate (4 * (c.args.level - c.loop-left.left)) 32 ++ l) (take-replicate (4 * c.loop-left.left) 64 32 (omega (arith, c.loop-left-test.false)))
    ∙ indent_after (c.args.level - c.loop-left.left) c.loop-left.left c.args.level (omega arith)
    )
