use Rattle.std.proofs.Common.{◌∙◌, ◌+◌, ◌≡◌, ◌<◌, suc, ℕ, List, [], length, get_or, sym, ap, arith, string_bytes}
use Rattle.std.proofs.Math.Utf8.{encodes}
use Rattle.std.proofs.lemmas.Str.{IsUtf8-string_bytes, IsUtf8-between, encodes-chars}
use Rattle.rst_text.specs.declared.kept.Kept.TheInside.{Inside}
use Rattle.rst_text.specs.Kept.{AreStarts, texts_in}
use Rattle.rst_text.proofs.KeptLemmas.{length_texts, start-boundary, start-is, starts-rise, text-at}
use Rattle.rst_text.proofs.kept.Kept.text.Goals as goal

-- a text at a place begins and ends where two starts are
both : (k : Inside) (i : ℕ) (ts : List (List ℕ)) → AreStarts (string_bytes k.text) k.starts.items → texts_in (string_bytes k.text) k.starts.items ≡ ts → i < length ts → i + 1 < length k.starts.items
both k i ts h e within = omega (arith, within, ap length e, length_texts (string_bytes k.text) k.starts.items h)

pub index-requires : goal.index-requires
index-requires c = omega (arith, both c.self.inside c.args.i _ c.self.invariant c.self.view_is c.requires, c.self.inside.starts.ok)

pub overflow_add-i : goal.overflow_add-i
overflow_add-i c = omega (arith, both c.self.inside c.args.i _ c.self.invariant c.self.view_is c.requires, c.self.inside.starts.ok, c.self.inside.starts.small)

pub index-requires-2 : goal.index-requires-2
index-requires-2 c = omega (arith, both c.self.inside c.args.i _ c.self.invariant c.self.view_is c.requires, c.self.inside.starts.ok)

pub range-requires-clause-start_le_end : goal.range-requires-clause-start_le_end
range-requires-clause-start_le_end c =
    let within = both c.self.inside c.args.i _ c.self.invariant c.self.view_is c.requires in
    omega (arith, start-is c.args.i _ _ (omega (arith, within)) c.index.ensures, start-is (c.args.i + 1) _ _ within c.index-2.ensures, starts-rise (string_bytes c.self.inside.text) c.self.inside.starts.items c.args.i (c.args.i + 1) c.self.invariant (omega arith) within)

pub range-requires-clause-start_boundary : goal.range-requires-clause-start_boundary
range-requires-clause-start_boundary c = λ some.
    let within : c.args.i < length c.self.inside.starts.items = omega (arith, both c.self.inside c.args.i _ c.self.invariant c.self.view_is c.requires) in
    rw (c.as_str.ensures.value, start-is c.args.i _ _ within c.index.ensures) (start-boundary _ _ c.args.i c.self.invariant within)

pub range-requires-clause-end_boundary : goal.range-requires-clause-end_boundary
range-requires-clause-end_boundary c =
    let within = both c.self.inside c.args.i _ c.self.invariant c.self.view_is c.requires in
    rw (c.as_str.ensures.value, start-is (c.args.i + 1) _ _ within c.index-2.ensures) (start-boundary _ _ (c.args.i + 1) c.self.invariant within)

pub returns : goal.returns
returns c =
    let bytes : List ℕ = string_bytes c.self.inside.text in
    let starts : List ℕ = c.self.inside.starts.items in
    let next : c.args.i + 1 ≡ suc c.args.i = omega arith in
    let within = both c.self.inside c.args.i _ c.self.invariant c.self.view_is c.requires in
    let here : c.args.i < length starts = omega (arith, within) in
    let from = start-is c.args.i _ _ here c.index.ensures in
    let to = start-is (c.args.i + 1) _ _ within c.index-2.ensures ∙ ap (λ k. get_or starts k 0) next in
    let part = IsUtf8-between bytes (get_or starts c.args.i 0) (get_or starts (suc c.args.i) 0) (IsUtf8-string_bytes c.self.inside.text) (starts-rise bytes starts c.args.i (suc c.args.i) c.self.invariant (omega arith) (omega (arith, within)))
    (start-boundary bytes starts c.args.i c.self.invariant here) (start-boundary bytes starts (suc c.args.i) c.self.invariant (omega (arith, within))) in
    c.range.ensures.value ∙ rw (c.as_str.ensures.value, from, to) (sym (encodes-chars _ part))
    ∙ ap encodes (sym (text-at bytes starts c.args.i c.self.invariant (omega (arith, within))) ∙ ap (λ ts. get_or ts c.args.i []) c.self.view_is)
