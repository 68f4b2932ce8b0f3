use Rattle.std.proofs.Common.{length, subst, sym, arith}
use Rattle.rst_inline_scan.specs.Missing.{IsUnended}
use Rattle.rst_inline_scan.proofs.MissingLemmas.{alike, none-past}
use Rattle.rst_inline_scan.proofs.missing.Missing.of.Goals as goal

pub returns : goal.returns
returns c =
    let t = c.args.text.now in record {
      unended = λ markup. subst (IsUnended markup t) (sym (alike markup (length t))) (none-past markup t);
      names = λ i above below. absurd (omega arith);
      uris = λ i above below. absurd (omega arith);
    }
