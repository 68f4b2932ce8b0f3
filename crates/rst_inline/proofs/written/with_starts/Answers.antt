use Rattle.std.proofs.Common.{◌∙◌, sym, ap, subst, length, arith}
use Rattle.std.specs.Str.{IsAscii}
use Rattle.std.proofs.lemmas.Str.{chars-IsAscii}
use Rattle.rst_inline.specs.Parts.{starts_of}
use Rattle.rst_inline.proofs.WrittenLemmas.{Split-start, Split-next, shorter, Split-characters, Split-starts}
use Rattle.rst_inline.proofs.written.with_starts.Goals as goal

pub loop-at-init : goal.loop-at-init
loop-at-init c =
    let first = c.into_iter-at-iterator.ensures.into_iter_gives in
    let rest = ap (λ i. i.rest.now) first ∙ c.char_indices-at-items.ensures.rest in
    record {
      split = Split-start _ _ _ _ _ c.utf8.text (c.reserve.ensures.items ∙ c.clear-2.ensures.items) (c.reserve-2.ensures.items ∙ c.clear.ensures.items) rest (ap (λ i. i.at) first ∙ c.char_indices-at-items.ensures.offset);
      characters = omega (arith, c.clear-2.ensures.len, c.reserve.ensures.len, c.in_ok-reserve.ensures.ok, ap length rest);
      starts = omega (arith, c.clear.ensures.len, c.reserve-2.ensures.len, c.in_ok-reserve-2.ensures.ok, ap length rest);
    }

pub loop-at-preserved : goal.loop-at-preserved
loop-at-preserved c =
    let steps = c.in-Some.ensures.steps in
    let less = shorter c.loop-at.at-iterator.rest.now c.next.new.self.rest.now c.in-Some.c steps.1 in
    record {
      split = rw (c.push_reserved-in-loop-at.ensures.items, c.push_reserved.ensures.items, steps.0, steps.2)
          (Split-next _ _ _ _ _ _ c.in-Some.c c.loop-at.invariant.split steps.1);
      characters = omega (arith, c.loop-at.invariant.characters, less, c.push_reserved-in-loop-at.ensures.len, c.push_reserved-in-loop-at.ensures.capacity);
      starts = omega (arith, c.loop-at.invariant.starts, less, c.push_reserved.ensures.len, c.push_reserved.ensures.capacity);
    }

pub returns-then-is_ascii-clause-characters : goal.returns-then-is_ascii-clause-characters
returns-then-is_ascii-clause-characters c =
    c.in_ok-characters.ensures ∙ c.as_bytes.ensures.value ∙ sym (chars-IsAscii c.args.text.now c.if-is_ascii.ensures.cases)

pub returns-then-is_ascii-clause-ascii : goal.returns-then-is_ascii-clause-ascii
returns-then-is_ascii-clause-ascii c = λ none. subst IsAscii (sym (c.in_ok-characters.ensures ∙ c.as_bytes.ensures.value)) c.if-is_ascii.ensures.cases

pub returns-clause-characters : goal.returns-clause-characters
returns-clause-characters c = Split-characters _ _ _ _ _ c.loop-at.invariant.split c.in-None.ensures.steps.0

pub returns-clause-begun : goal.returns-clause-begun
returns-clause-begun c = λ some.
    c.push_reserved-2.ensures.items ∙ Split-starts _ _ _ _ _ c.loop-at.invariant.split c.in-None.ensures.steps.0
    ∙ ap (starts_of 0) (sym (Split-characters _ _ _ _ _ c.loop-at.invariant.split c.in-None.ensures.steps.0))
