use Rattle.std.proofs.Common.{◌-◌, ◌≤◌, ◌∙◌, min, take, drop, sym, ap, ap₂, subst₂, arith}
use Rattle.std.proofs.Math.Nat.{min-le_right}
use Rattle.std.specs.Str.{chars, IsCharBoundary}
use Rattle.rst_inline.proofs.TextLemmas.{part-within}
use Rattle.rst_inline.proofs.WrittenLemmas.{Byte, byte-order, byte-boundary, chars-part}
use Rattle.rst_inline.proofs.written.Written.part.Goals as goal

pub range-requires-clause-start_le_end : goal.range-requires-clause-start_le_end
range-requires-clause-start_le_end c =
    let order : c.min-low.result ≤ c.min-high.result = omega (arith, c.min-low.ensures, min-le_right c.args.low c.min-high.result) in
    omega (arith, c.byte_at.ensures, c.byte_at-2.ensures, byte-order c.args.self.now.characters.items c.min-low.result c.min-high.result order)

pub range-requires-clause-start_boundary : goal.range-requires-clause-start_boundary
range-requires-clause-start_boundary c =
    let w = c.args.self.now in
    λ some. subst₂ IsCharBoundary (sym w.text_bytes) (sym c.byte_at.ensures) (byte-boundary w.characters.items c.min-low.result w.scalars)

pub range-requires-clause-end_boundary : goal.range-requires-clause-end_boundary
range-requires-clause-end_boundary c =
    let w = c.args.self.now in subst₂ IsCharBoundary (sym w.text_bytes) (sym c.byte_at-2.ensures) (byte-boundary w.characters.items c.min-high.result w.scalars)

pub returns : goal.returns
returns c =
    let w = c.args.self.now in
    let t = w.characters.items in
    let low = c.min-low.result in
    let high = c.min-high.result in
    let order : low ≤ high = omega (arith, c.min-low.ensures, min-le_right c.args.low high) in
    ap chars c.range.ensures.value ∙ ap₂ (λ from to. chars (take (to - from) (drop from w.text.now))) c.byte_at.ensures c.byte_at-2.ensures
    ∙ ap (λ bs. chars (take (Byte t high - Byte t low) (drop (Byte t low) bs))) w.text_bytes ∙ chars-part t low high w.scalars order
    ∙ part-within t c.args.low c.args.high high low (c.min-high.ensures ∙ ap (min c.args.high) (c.len.ensures ∙ w.characters.ok.0)) c.min-low.ensures
