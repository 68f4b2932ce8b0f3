use Rattle.std.proofs.Common.{◌≡◌, ⊎_elim, ◌+◌, ◌<◌, ◌≤◌, Some, None, true, false, refl, sym, subst, arith}
use Rattle.std.proofs.lemmas.Bool.{cases_lt}
use Rattle.rst_text.proofs.PlacesLemmas.{NoneFrom-within}
use Rattle.rst_inline_scan.specs.Registered.{ends_link, uri_limit}
use Rattle.rst_inline_scan.proofs.RegisteredLemmas.{last_end-is}
use Rattle.rst_inline_scan.proofs.registered.last_end.Goals as goal

pub loop-end-init : goal.loop-end-init
loop-end-init c =
    let same = c.uri_limit-end.ensures in record { upto = omega arith; none = λ k low high. absurd (omega arith) }

pub loop-end-preserved : goal.loop-end-preserved
loop-end-preserved c =
    let t = c.args.text.now in
    let here : ends_link t c.loop-end.end ≡ false = cc in
    let upto = c.loop-end.invariant.upto in
    record {
      upto = omega arith;
      none = λ k low high. ⊎_elim
          (λ past. c.loop-end.invariant.none k (omega arith) high)
          (λ last. subst (λ n. ends_link t n ≡ false) (let same : c.loop-end.end ≡ k = omega arith in same) here)
          (cases_lt c.loop-end.end k);
    }

pub returns-then-ends_link : goal.returns-then-ends_link
returns-then-ends_link c =
    let t = c.args.text.now in
    let here : ends_link t c.loop-end.end ≡ true = cc in
    let upto = c.loop-end.invariant.upto in
    last_end-is t c.args.start (uri_limit t c.args.start) (Some c.loop-end.end) refl (omega arith, omega arith, here, c.loop-end.invariant.none)

pub returns : goal.returns
returns c =
    let t = c.args.text.now in
    let limit = uri_limit t c.args.start in
    last_end-is t c.args.start limit None refl
    (NoneFrom-within (ends_link t) (c.loop-end.end + 1) (limit + 1) (c.args.start + 1) (limit + 1) (omega arith) (omega arith) c.loop-end.invariant.none)
