use Rattle.std.proofs.Common.{ℕ, leb, cond, bit_or, arith}
use Rattle.std.proofs.lemmas.Simd.{zip2_splat}
use Rattle.rst_text.specs.Ordinary.{is_ordinary}
use Rattle.rst_text.specs.Runs.{fails_test}
use Rattle.rst_text.proofs.LaneLemmas.{joined, masked}
use Rattle.rst_text.proofs.ordinary.OrdinaryByteTest.failing.Goals as goal

pub returns : goal.returns
returns c =
    let v = c.args.bytes in
    let long = c.fits-bytes.0 in
    let low = zip2_splat {X = ℕ} {Y = ℕ} {Z = ℕ} (λ a b. cond (leb a b) 255 0) v 16 31 long in
    masked _ (fails_test is_ordinary) v _ (omega arith) c.fits-bytes.1
    (joined bit_or _ _ v (joined bit_or _ _ v low (zip2_splat {Y = ℕ} _ v 16 0xC2 long)) (zip2_splat {Y = ℕ} _ v 16 0xE2 long)) tt
