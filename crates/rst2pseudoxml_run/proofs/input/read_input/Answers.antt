use Rattle.std.proofs.Common.{◌++◌, ◌∙◌, take, inl, inr, arith}
use Rattle.std.proofs.lemmas.List.{length-take-le}
use Rattle.std.proofs.lemmas.Result.{err_from_is_err_and}
use Rattle.rst2pseudoxml_run.specs.Headline.ReadsOn.{enough, some, last}
use Rattle.std.proofs.KnownBytes.{Consumes-trans}
use Rattle.rst2pseudoxml_run.proofs.input.read_input.Goals as goal

pub returns-in-None-clause-reads : goal.returns-in-None-clause-reads
returns-in-None-clause-reads g c = c.loop-chunk.invariant.reads _ (last (omega arith) (inl c.in-None.ensures.call))

pub returns-in-Some-eq0-clause-reads : goal.returns-in-Some-eq0-clause-reads
returns-in-Some-eq0-clause-reads g c = c.loop-chunk.invariant.reads _ (last {buf = c.read.new.buf} (omega arith) (inr (rw c.in-Some-eq0.field-0-test at c.in-Some-eq0.ensures.call)))

pub returns-in_err-extend_from_slice-in-Some-clause-reads : goal.returns-in_err-extend_from_slice-in-Some-clause-reads
returns-in_err-extend_from_slice-in-Some-clause-reads g c = c.loop-chunk.invariant.reads _ (some (omega arith) (omega arith) c.in-Some.ensures.call enough)

pub returns-clause-reads : goal.returns-clause-reads
returns-clause-reads g c = c.loop-chunk.invariant.reads _ enough

pub loop-chunk-preserved : goal.loop-chunk-preserved
loop-chunk-preserved g c = record {
  handed = rw c.in_ok-extend_from_slice-in-Some.ensures.items (Consumes-trans _ _ _ _ _ c.loop-chunk.invariant.handed c.in-Some.ensures.bytes.1);
  same = c.in-Some.ensures.bytes.3 ∙ c.loop-chunk.invariant.same;
  reads = λ r later. c.loop-chunk.invariant.reads r (some (omega arith) (omega arith) c.in-Some.ensures.call (rw (c.in_ok-extend_from_slice-in-Some.ensures.len, length-take-le c.in-Some.n c.read.new.buf c.in-Some.ensures.bytes.0) at later));
}

pub returns-in_err-extend_from_slice-in-Some-clause-bytes : goal.returns-in_err-extend_from_slice-in-Some-clause-bytes
returns-in_err-extend_from_slice-in-Some-clause-bytes g c =
    let p = err_from_is_err_and c.from_residual.result c.from_residual.ensures.1 in
    (c.loop-chunk.bytes.items ++ take c.in-Some.n c.read.new.buf, Consumes-trans _ _ _ _ _ c.loop-chunk.invariant.handed c.in-Some.ensures.bytes.1, rw (p.1, p.2) tt)
