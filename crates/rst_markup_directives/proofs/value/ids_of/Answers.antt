use Rattle.std.proofs.Common.{◌≡◌, ◌||◌, ◌++◌, [], ◌∷◌, Bool, true, false, List, length, map, not, cond, Some, None, ap, ap₂, refl, sym, ◌∙◌, rules, tests, chars, arith}
use Rattle.std.specs.List.{list_any}
use Rattle.std.specs.declared.string.String.{String}
use Rattle.std.proofs.lemmas.Bool.{eqb-true, eqb-false}
use Rattle.std.proofs.lemmas.Iterator.{YieldsList-from_slice}
use Rattle.std.proofs.lemmas.Iterator.Consumers.{YieldsList-end, YieldsList-from_filter}
use Rattle.std.proofs.lemmas.Iterator.Search.{any_from_yields_List}
use Rattle.std.proofs.lemmas.Iterator.Splits.{YieldsList-from_slice_split}
use Rattle.std.proofs.lemmas.List.{length-map, map-append}
use Rattle.rst_text.specs.Block.{is_blank}
use Rattle.rst_text.specs.Characters.{is_white}
use Rattle.rst_text.specs.Names.{id_of}
use Rattle.rst_text.specs.Text.{chars_of}
use Rattle.rst_markup_directives.specs.Characters.{Text}
use Rattle.rst_markup_directives.specs.Value.{all_filled, ids_of, chars_of_texts}
use Rattle.rst_markup_directives.proofs.value.ids_of.Goals as goal

any-texts : {A : Type 0} (ids : List (String A)) → list_any (λ id. is_blank (chars_of id)) ids ≡ list_any is_blank (chars_of_texts ids)
any-texts [] = refl
any-texts (id ∷ ids) = ap (λ b. is_blank (chars_of id) || b) (any-texts ids)

none : (ts : List Text) → length ts ≡ 0 → None ≡ all_filled ts
none [] e = refl
none (t ∷ ts) e = absurd (omega arith)

filled : (ts : List Text) (b : Bool) → (length ts ≡ 0 → ⊥) → b ≡ list_any is_blank ts → cond b None (Some ts) ≡ all_filled ts
filled [] b some e = absurd (some refl)
filled (t ∷ ts) b some e = ap (λ x. cond x None (Some (t ∷ ts))) e

pub loop-word-preserved : goal.loop-word-preserved
loop-word-preserved c =
    let id = c.in_ok-id_of.ensures ∙ ap id_of (ap chars c.as_str.ensures.value ∙ c.in_ok-word.ensures) in
    ap chars_of_texts c.in_ok-push.ensures.items ∙ map-append chars_of c.loop-word.ids.items (c.in_ok-id_of.field-0 ∷ [])
    ∙ ap₂ ◌++◌ c.loop-word.invariant (ap (λ t. t ∷ []) id)
    ∙ sym (ap (map id_of) (map-append (λ word. word.now) c.loop-word.yielded (c.in-Some.word ∷ [])) ∙ map-append id_of (map (λ word. word.now) c.loop-word.yielded) (c.in-Some.word.now ∷ []))

pub returns-then-is_empty : goal.returns-then-is_empty
unfolding ids_of
returns-then-is_empty c =
    let end = YieldsList-end (YieldsList-from_filter {s = c.into_iter-word-iterator.result} _ (λ t. not (is_blank t)) (YieldsList-from_slice_split _ is_white c.args.text.now (cc) (cc) (cc) (λ x r q k. search (rules, tests))) (cc) (λ x b q k. search (rules, tests)))
    c.loop-word.yielded c.loop-word.word-iterator c.loop-word.yielded_by c.next.result c.next.new.self c.in-None.is c.next.ensures.steps in
    let empty = eqb-true _ _ (sym c.is_empty.ensures ∙ c.if-is_empty.true) in
    none (chars_of_texts c.loop-word.ids.items) (omega (arith, length-map c.loop-word.ids.items chars_of)) ∙ ap all_filled (c.loop-word.invariant ∙ ap (map id_of) end.0)

pub returns-then-any : goal.returns-then-any
unfolding ids_of
returns-then-any c =
    let end = YieldsList-end (YieldsList-from_filter {s = c.into_iter-word-iterator.result} _ (λ t. not (is_blank t)) (YieldsList-from_slice_split _ is_white c.args.text.now (cc) (cc) (cc) (λ x r q k. search (rules, tests))) (cc) (λ x b q k. search (rules, tests)))
    c.loop-word.yielded c.loop-word.word-iterator c.loop-word.yielded_by c.next.result c.next.new.self c.in-None.is c.next.ensures.steps in
    let some = eqb-false _ _ (sym c.is_empty.ensures ∙ c.if-is_empty.false) in
    let blank = any_from_yields_List (λ id. is_blank (chars_of id)) c.any.new.self _ c.any.result c.any.ensures.ran (YieldsList-from_slice c.loop-word.ids.items (cc)) (λ x b q k. search (rules, tests)) in
    filled (chars_of_texts c.loop-word.ids.items) true (λ e. some (omega (arith, length-map c.loop-word.ids.items chars_of))) (sym c.if-any.true ∙ blank ∙ any-texts c.loop-word.ids.items) ∙ ap all_filled (c.loop-word.invariant ∙ ap (map id_of) end.0)

pub returns : goal.returns
unfolding ids_of
returns c =
    let end = YieldsList-end (YieldsList-from_filter {s = c.into_iter-word-iterator.result} _ (λ t. not (is_blank t)) (YieldsList-from_slice_split _ is_white c.args.text.now (cc) (cc) (cc) (λ x r q k. search (rules, tests))) (cc) (λ x b q k. search (rules, tests)))
    c.loop-word.yielded c.loop-word.word-iterator c.loop-word.yielded_by c.next.result c.next.new.self c.in-None.is c.next.ensures.steps in
    let some = eqb-false _ _ (sym c.is_empty.ensures ∙ c.if-is_empty.false) in
    let blank = any_from_yields_List (λ id. is_blank (chars_of id)) c.any.new.self _ c.any.result c.any.ensures.ran (YieldsList-from_slice c.loop-word.ids.items (cc)) (λ x b q k. search (rules, tests)) in
    filled (chars_of_texts c.loop-word.ids.items) false (λ e. some (omega (arith, length-map c.loop-word.ids.items chars_of))) (sym c.if-any.false ∙ blank ∙ any-texts c.loop-word.ids.items) ∙ ap all_filled (c.loop-word.invariant ∙ ap (map id_of) end.0)
