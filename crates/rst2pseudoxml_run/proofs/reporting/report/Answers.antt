use Rattle.std.proofs.Common.{◌≡◌, refl, ap, append-nil, subst, List, ℕ, codes, decimal, ◌∙◌, ◌++◌}
use Rattle.rst_text.specs.Counted.{IsSent}
use Rattle.rst2pseudoxml_run.specs.Report.{fault_line}
use Rattle.rst2pseudoxml_run.specs.declared.end.End.TheVariants.{Done}
use Rattle.rst_text.proofs.WriteLemmas.{sent_nothing}
use Rattle.rst2pseudoxml_run.proofs.reporting.report.Goals as goal

pub returns-in-Options-clause-line : goal.returns-in-Options-clause-line
returns-in-Options-clause-line g c =
    let P : List ℕ → Type 0 = λ message. IsSent g.E.WriteCall.call_takes g.E.Write.contents c.args.err.now c.say-in-Options.new.err (fault_line c.args.by.now message) in
    rw c.in-Options.is (subst P c.option_message.ensures c.say-in-Options.ensures)

pub returns-in-Refused-clause-line : goal.returns-in-Refused-clause-line
returns-in-Refused-clause-line g c =
    let P : List ℕ → Type 0 = λ message. IsSent g.E.WriteCall.call_takes g.E.Write.contents c.args.err.now c.say-in-Refused.new.err (fault_line c.args.by.now message) in
    rw c.in-Refused.is (subst P c.as_str.ensures.value c.say-in-Refused.ensures)

pub returns-in-Open-clause-line : goal.returns-in-Open-clause-line
returns-in-Open-clause-line g c =
    let P : List ℕ → Type 0 = λ message. IsSent g.E.WriteCall.call_takes g.E.Write.contents c.args.err.now c.say_of.new.err (fault_line c.args.by.now message) in
    let whole = append-nil (codes "cannot open " ++ c.as_str-in-Open.result.now) ∙ ap (λ named. codes "cannot open " ++ named) c.as_str-in-Open.ensures.value in
    rw c.in-Open.is (subst P whole c.say_of.ensures)

pub returns-in-NotUtf8 : goal.returns-in-NotUtf8
returns-in-NotUtf8 g c =
    let P : List ℕ → Type 0 = λ message. IsSent g.E.WriteCall.call_takes g.E.Write.contents c.args.err.now c.say_of-in-NotUtf8.new.err (fault_line c.args.by.now message) in
    rw (c.in-Ran.is, c.in-NotUtf8.is) (record { line = subst P (append-nil (codes "not UTF-8 at byte " ++ decimal c.in-NotUtf8.at)) (rw (c.format.ensures.text) at c.say_of-in-NotUtf8.ensures); status = refl })

pub returns-in-Read : goal.returns-in-Read
returns-in-Read g c = rw (c.in-Ran.is, c.in-Read.is) (record { line = c.say-in-Read.ensures; status = refl })

pub returns-in-TooLong : goal.returns-in-TooLong
returns-in-TooLong g c = rw (c.in-Ran.is, c.in-TooLong.is) (record { line = c.say-in-TooLong.ensures; status = refl })

pub returns-in-NoMemory : goal.returns-in-NoMemory
returns-in-NoMemory g c = rw (c.in-Ran.is, c.in-NoMemory.is) (record { line = c.say-in-NoMemory.ensures; status = refl })

pub returns-in-WriteErr : goal.returns-in-WriteErr
returns-in-WriteErr g c = rw (c.in-Ran.is, c.in-WriteErr.is) (record { line = c.say-in-WriteErr.ensures; status = refl })

pub returns-in-WriteOut : goal.returns-in-WriteOut
returns-in-WriteOut g c = rw (c.in-Ran.is, c.in-WriteOut.is) (record { line = c.say-in-WriteOut.ensures; status = refl })

pub returns-in-TooDeep : goal.returns-in-TooDeep
returns-in-TooDeep g c = rw (c.in-Ran.is, c.in-TooDeep.is) (record { line = rw (c.format-in-TooDeep.ensures.text) at c.say_of-in-TooDeep.ensures; status = refl })

pub returns-in-Ran-Done-clause-line : goal.returns-in-Ran-Done-clause-line
returns-in-Ran-Done-clause-line g c =
    let done : c.in-Ran-Done.field-0 ≡ Done c.in-Ran-Done.status = rw c.in-Ran-Done.is at c.in-Ran-Done.field-0-is in
    rw (c.in-Ran-Done.is, done) (sent_nothing c.args.err.now)
