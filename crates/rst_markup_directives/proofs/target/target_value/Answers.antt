use Rattle.std.proofs.Common.{◌≡◌, eqb, rules, tests, map, drop, option_map, sym, ap, ap₂, ◌∙◌, subst, Some, [], List, ℕ, Bor, IfOk}
use Rattle.std.proofs.lemmas.Iterator.Consumers.{YieldsList-end}
use Rattle.std.proofs.lemmas.Iterator.{YieldsList-from_slice}
use Rattle.std.proofs.lemmas.Iterator.Search.{all_from_yields_List}
use Rattle.std.proofs.lemmas.Iterator.Splits.{YieldsList-from_slice_split}
use Rattle.std.proofs.lemmas.List.{take_rest}
use Rattle.std.proofs.lemmas.List.Folds.{fold-map}
use Rattle.std.proofs.lemmas.List.Sums.{fold_push}
use Rattle.std.specs.Str.{chars}
use Rattle.rst_text.specs.Text.{chars_of}
use Rattle.rst_markup_directives.specs.Characters.{unindented}
use Rattle.rst_markup_directives.specs.Lines.{joined_nonempty, with_line}
use Rattle.rst_markup_directives.specs.Target.{located, destination_of, destination_in, target_text, target_value}
use Rattle.rst_markup_directives.proofs.Joins.{joined_onto}
use Rattle.rst_markup_directives.proofs.PlainUris.{is_plain, plain-uri}
use Rattle.rst_markup_directives.proofs.target.target_value.Goals as goal

pub loop-line-preserved : goal.loop-line-preserved
loop-line-preserved c =
    let line : List ℕ = c.in-Some.line.now in
    c.in_ok-add_line.ensures ∙ ap₂ with_line c.loop-line.invariant (take_rest line c.spaces.result ∙ ap (λ n. drop n line) c.spaces.ensures.value)
    ∙ sym (fold_push (λ text (l : Bor (List ℕ)). with_line text (unindented l.now)) [] c.loop-line.yielded c.in-Some.line)

pub returns-then-all : goal.returns-then-all
returns-then-all c =
    let bytes = c.as_bytes-bytes.result.now in
    let each = all_from_yields_List is_plain _ _ c.all.result c.all.ensures.ran (YieldsList-from_slice bytes cc) (λ x b q k. search (rules, tests)) in
    let plain : target_value (chars c.args.text.now) ≡ Some (located (chars c.args.text.now)) =
    rw (← c.as_bytes-bytes.ensures.value) (plain-uri bytes (sym c.is_empty.ensures ∙ c.if-not-is_empty.true) c.if-bytes-ne95.true (sym each ∙ c.if-all.true)) in
    let uri : chars_of c.in_ok-uri.uri ≡ chars c.args.text.now = search rules in
    ap (λ t. Some (located t)) uri ∙ sym plain

pub returns : goal.returns
unfolding target_value target_text joined_nonempty
returns c =
    let end = YieldsList-end (YieldsList-from_slice_split {s = c.into_iter-line-iterator.result} _ (λ d. eqb d 10) c.deref.result.now (search rules) (search rules) (search rules) (λ x r q k. search (rules, tests)))
    c.loop-line.yielded c.loop-line.line-iterator c.loop-line.yielded_by c.next.result c.next.new.self c.in-None.is c.next.ensures.steps in
    let lines = map (λ (y : Bor (List ℕ)). y.now) c.loop-line.yielded in
    let text : c.deref-2.result.now ≡ target_text (chars c.args.text.now) =
    c.deref-2.ensures.value ∙ c.loop-line.invariant
    ∙ sym (fold-map with_line unindented [] lines ∙ fold-map (λ text line. with_line text (unindented line)) (λ (y : Bor (List ℕ)). y.now) [] c.loop-line.yielded)
    ∙ joined_onto [] (map unindented lines) ∙ ap (λ ls. joined_nonempty (map unindented ls)) end.0 ∙ ap target_text (c.deref.ensures.value ∙ c.in_ok-characters.ensures) in
    let P : List ℕ → Type 0 = λ cs. IfOk c.destination_in.result (λ target. option_map destination_of target ≡ destination_in cs) in
    subst P text c.destination_in.ensures
