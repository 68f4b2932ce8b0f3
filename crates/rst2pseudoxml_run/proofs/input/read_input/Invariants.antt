use Rattle.std.proofs.Common.{◌≡◌, ◌-◌, false, vec_len}
use Rattle.rst_text.specs.Counted.{inner_of, has_failed, between, HandsOut}
use Rattle.rst2pseudoxml_run.specs.Headline.{ReadsOn}
use Rattle.rst2pseudoxml_run.proofs.input.read_input.Given as goal

-- the bytes so far are those that the reads handed out; further reads make the reads so far whole
abbrev pub invariant-loop-chunk : goal.invariant-loop-chunk
invariant-loop-chunk g l = record {
  handed : HandsOut (between g.R.Read.remaining l.fn.input l.input) l.bytes.items;
  same : has_failed l.input ≡ false;
  reads : (r : _) → ReadsOn g.R.ReadCall.call_gives (vec_len l.bytes) (inner_of l.input) r → ReadsOn g.R.ReadCall.call_gives 0 (inner_of l.fn.input) r;
}

abbrev pub decreases-loop-chunk : goal.decreases-loop-chunk
decreases-loop-chunk g l = 16777217 - vec_len l.bytes
