use Rattle.std.proofs.Common.{◌≡◌, ⊎_elim, true, false, subst, arith}
use Rattle.std.proofs.lemmas.Bool.{cases_lt}
use Rattle.rst_inline_scan.specs.Mail.{is_in_user}
use Rattle.rst_inline_scan.proofs.MailLemmas.{user_stop-is}
use Rattle.rst_inline_scan.proofs.mail.user_stop.Goals as goal

pub returns-then-not-is_in_user-clause-exact : goal.returns-then-not-is_in_user-clause-exact
returns-then-not-is_in_user-clause-exact c =
    let fails : is_in_user c.args.text.now c.loop-place.place ≡ false = cc in
    user_stop-is c.args.text.now c.args.start c.loop-place.place (record { above = omega arith; within = omega arith; pass = c.loop-place.invariant; stops = λ less. fails })

pub returns-clause-exact : goal.returns-clause-exact
returns-clause-exact c = user_stop-is c.args.text.now c.args.start _ (record { above = c.requires; within = omega arith; pass = λ k above below. c.loop-place.invariant k above (omega arith); stops = λ less. absurd (omega arith) })

pub loop-place-preserved : goal.loop-place-preserved
loop-place-preserved c k above below =
    let t = c.args.text.now in
    let here : is_in_user t c.loop-place.place ≡ true = cc in
    ⊎_elim
    (λ before. c.loop-place.invariant k above before)
    (λ past. subst (λ n. is_in_user t n ≡ true) (let same : c.loop-place.place ≡ k = omega arith in same) here)
    (cases_lt k c.loop-place.place)
