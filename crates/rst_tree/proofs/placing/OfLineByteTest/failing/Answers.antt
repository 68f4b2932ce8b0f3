use Rattle.std.proofs.Common.{ℕ, arith}
use Rattle.std.proofs.lemmas.Simd.{zip2_splat}
use Rattle.rst_text.proofs.LaneLemmas.{masked}
use Rattle.rst_text.specs.Runs.{fails_test}
use Rattle.rst_tree.specs.Print.{is_of_line}
use Rattle.rst_tree.proofs.placing.OfLineByteTest.failing.Goals as goal

pub returns : goal.returns
returns c =
    let v = c.args.bytes in
    let long = c.fits-bytes.0 in
    masked _ (fails_test is_of_line) v _ (omega arith) c.fits-bytes.1 (zip2_splat {Y = ℕ} _ v 16 10 long) tt
