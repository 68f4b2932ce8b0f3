use Rattle.std.proofs.Common.{ℕ, bit_or, arith}
use Rattle.std.proofs.lemmas.Simd.{zip2_splat}
use Rattle.rst_text.proofs.LaneLemmas.{joined, masked}
use Rattle.rst_inline_scan.specs.Quiet.{is_quiet}
use Rattle.rst_text.specs.Runs.{fails_test}
use Rattle.rst_inline_scan.proofs.quiet.QuietByteTest.failing.Goals as goal

pub returns : goal.returns
returns c =
    let v = c.args.bytes in
    let long = c.fits-bytes.0 in
    masked _ (fails_test is_quiet) v _ (omega arith) c.fits-bytes.1
    (joined bit_or _ _ v (joined bit_or _ _ v (joined bit_or _ _ v (joined bit_or _ _ v (joined bit_or _ _ v (zip2_splat {Y = ℕ} _ v 16 42 long)
    (zip2_splat {Y = ℕ} _ v 16 95 long)) (zip2_splat {Y = ℕ} _ v 16 96 long)) (zip2_splat {Y = ℕ} _ v 16 124 long)) (zip2_splat {Y = ℕ} _ v 16 58 long)) (zip2_splat {Y = ℕ} _ v 16 92 long)) tt
