use Rattle.std.specs.Option.{is_some}
use Rattle.std.proofs.Common.{◌≡◌, ◌≢◌, ℕ, ◌+◌, ◌-◌, ◌<◌, ◌≤◌, Bool, true, false, ◌&&◌, ◌==◌, sym, ◌∙◌, arith, ap, below_more, length, get_or, Some, None, ⊎_elim}
use Rattle.std.proofs.lemmas.Bool.{ne_eqb, cases_lt}
use Rattle.std.proofs.lemmas.List.{get_or_read}
use Rattle.rst_text.proofs.PlacesLemmas.{first_from-is}
use Rattle.rst_text.specs.Characters.{Text}
use Rattle.rst_text.specs.Escapes.{escapes, is_escaped}
use Rattle.rst_inline_scan.specs.Marked.{start_len, mark, ends, markup_end}
use Rattle.rst_inline_scan.specs.declared.piece.Markup.{Markup}
use Rattle.rst_text.proofs.EscapeLemmas.{is_escaped-bare, is_escaped-more}
use Rattle.rst_inline_scan.proofs.MarkedLemmas.{start-bare, start-fits, start-some, no-end}
use Rattle.rst_inline_scan.proofs.WordLemmas.{escaped-after}
use Rattle.rst_inline_scan.proofs.piece.Markup.end.Goals as goal
use Rattle.rst_inline_scan.proofs.piece.Markup.end.Goals.{then-text-at+then-open-at+in_default, else-text-at, else-text-at-via-then-text-at+else-open-at, else-text-at-via-else-text-at}

-- whether what follows a run without backslashes is escaped
past-bare : (t : Text) (place from to : ℕ) (escaped : Bool) → place ≤ from → from ≤ to → ((k : ℕ) → from ≤ k → k < to → get_or t k 0 ≢ 92) → escaped ≡ is_escaped t place from → (escaped && from == to) ≡ is_escaped t place to
past-bare t place from to escaped order above bare known = escaped-after t place from to escaped order above known (λ some. ne_eqb (get_or t (to - 1) 0) 92 (bare (to - 1) (omega arith) (omega arith)))

-- no markup ends in a run without its mark
none-unmarked : (markup : Markup) (t : Text) (place from to low : ℕ) → ((k : ℕ) → from ≤ k → k < to → get_or t k 0 ≢ mark markup)
    → ((k : ℕ) → low ≤ k → k < from → ends markup t place k ≡ false) → (k : ℕ) → low ≤ k → k < to → ends markup t place k ≡ false
none-unmarked markup t place from to low unmarked before k above less = ⊎_elim
    (λ early. before k above early)
    (λ late. no-end markup t place k (unmarked k late less))
    (cases_lt k from)

pub next_mark-at-requires : goal.next_mark-at-requires
next_mark-at-requires c = let fits = start-fits c.args.self c.args.text.now c.args.start c.requires.mark in let some = start-some c.args.self in omega arith

pub loop-at-init : goal.loop-at-init
loop-at-init c =
    let next = c.next_mark-at.ensures in
    record {
      above = omega (arith, next.above);
      within = next.within;
      escaped = past-bare c.args.text.now c.args.place (c.args.start + 1) c.next_mark-at.result false (omega arith) next.above next.bare
          (sym (is_escaped-bare c.args.text.now c.args.place c.args.start c.requires.order (start-bare c.args.self c.args.text.now c.args.start c.requires.mark)));
      none = λ k low high. no-end c.args.self c.args.text.now c.args.place k (λ same. next.unmarked k (let some = start-some c.args.self in omega arith) high (same ∙ sym c.mark-mark.ensures));
    }

pub loop-at-preserved : goal.loop-at-preserved
loop-at-preserved c =
    let t = c.args.text.now in
    let at = c.loop-at.at in
    let known = c.loop-at.invariant.escaped in
    let next = c.next_mark-next.ensures in
    let read = get_or_read t _ _ (omega arith) c.index-text-at-in-loop-at.is 0 in
    let low = c.args.start + start_len c.args.self + 1 in
    let not_here : low ≤ at → ends c.args.self t c.args.place at ≡ false = λ above.
    elim c.if-text-at.branch [
      | then-text-at+then-open-at+in_default w ↦ sym (w.ending.ensures.ends c.args.place known) ∙ ap is_some w.in_default.is
      | else-text-at o ↦ elim o.else-text-at.branch [
        | else-text-at-via-then-text-at+else-open-at w ↦ absurd (omega arith)
        | else-text-at-via-else-text-at w ↦ no-end c.args.self t c.args.place at (λ same. w.if-text-at.false (get_or_read t _ _ (omega arith) c.index-text-at.is 0 ∙ same ∙ sym c.mark-mark.ensures))
      ]
    ] in
    record {
      above = omega (arith, c.loop-at.invariant.above, next.above);
      within = next.within;
      escaped = past-bare t c.args.place (at + 1) c.next_mark-next.result c.escapes-escapes_next.result (omega (arith, c.loop-at.invariant.above)) next.above next.bare
          (c.escapes-escapes_next.ensures ∙ ap (λ x. escapes x c.loop-at.escaped) read ∙ ap (escapes _) known ∙ sym (is_escaped-more t c.args.place at (omega (arith, c.loop-at.invariant.above))));
      none = none-unmarked c.args.self t c.args.place (at + 1) c.next_mark-next.result low (λ k above less same. next.unmarked k above less (same ∙ sym c.mark-mark.ensures))
          (λ k above less. below_more (λ k. low ≤ k → ends c.args.self t c.args.place k ≡ false) at (λ k high low. c.loop-at.invariant.none k low high) not_here k less above);
    }

pub returns-in-Some-clause-exact : goal.returns-in-Some-clause-exact
unfolding markup_end
returns-in-Some-clause-exact c =
    let here : ends c.args.self c.args.text.now c.args.place c.loop-at.at ≡ true = sym (c.ending.ensures.ends c.args.place c.loop-at.invariant.escaped) ∙ ap is_some c.in-Some.is in
    first_from-is (ends c.args.self c.args.text.now c.args.place) _ (length c.args.text.now) (Some c.loop-at.at) (omega arith, omega arith, here, c.loop-at.invariant.none)

pub returns-clause-exact : goal.returns-clause-exact
unfolding markup_end
returns-clause-exact c =
    first_from-is (ends c.args.self c.args.text.now c.args.place) _ (length c.args.text.now) None (λ k low high. c.loop-at.invariant.none k low (omega arith))
