use Rattle.std.proofs.Common.{◌∙◌, arith, rules}
use Rattle.std.specs.Str.{chars}
use Rattle.rst_markup_lines.proofs.Steps.{decimal_is, decimal_more, decimal_none, decimal_over, below_more}
use Rattle.rst_markup_lines.proofs.decimal.number_of.Goals as goal

pub loop-k-preserved : goal.loop-k-preserved
loop-k-preserved c =
    let value = decimal_more c.loop-k.value c.args.n c.loop-k.k _ c.in-Some.c _ (cc) (omega arith) c.loop-k.invariant.value in
    record {
      text = search rules;
      value = cc;
      below = below_more c.loop-k.value c.loop-k.k c.digit.result c.loop-k.invariant.below c.digit.ensures.small;
    }

pub returns-after-loop-k : goal.returns-after-loop-k
returns-after-loop-k c = decimal_over _ _ _ _ (omega arith) c.loop-k.invariant.value ∙ decimal_is c.args.n (chars c.args.text.now)

pub returns-in_default : goal.returns-in_default
returns-in_default c = decimal_none _ _ _ _ (cc) c.loop-k.invariant.value ∙ decimal_is c.args.n (chars c.args.text.now)
