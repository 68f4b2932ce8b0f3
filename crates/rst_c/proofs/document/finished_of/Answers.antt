use Rattle.std.proofs.Common.{◌≤◌, ℕ, List, length, subst, arith}
use Rattle.rst_settings.specs.Profile.{profile_of}
use Rattle.rst2pseudoxml_run.specs.Reading.{Reads}
use Rattle.rst_c.proofs.Answering.{found}
use Rattle.rst_c.proofs.document.finished_of.Goals as goal

pub returns : goal.returns
returns c =
    let settings = c.args.settings.now in
    found settings c.args.text.now c.document_of.result (omega (arith, c.if-text-gt16777216.false))
    (subst (λ (bytes : List ℕ). Reads (profile_of settings) settings bytes c.document_of.result) c.in_ok-from_slice.ensures.items c.document_of.ensures)
