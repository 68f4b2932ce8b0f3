use Rattle.std.proofs.Common.{◌≡◌, ◌+◌, ◌++◌, [], ◌∷◌, drop, take, length, ◌-◌, Some, rules, sym, ap, ◌∙◌, arith}
use Rattle.std.proofs.lemmas.List.{drop-drop, map-append}
use Rattle.rst_markup_directives.specs.Lines.{texts_of}
use Rattle.rst_markup_directives.specs.Options.{option_field, field_text, field_texts, fields_in}
use Rattle.rst_markup_directives.specs.declared.options.Field.{Field}
use Rattle.rst_markup_directives.proofs.FieldLemmas.{deep_len, line_at, after_fields, fields-more, fields-stop, fields-end, texts-at, length_texts, texts_after, below-texts}
use Rattle.rst_markup_directives.proofs.options.fields_of.Goals as goal

pub returns-in_default : goal.returns-in_default
unfolding option_field
returns-in_default c =
    let at = texts-at c.args.run.now c.loop-i.i (omega arith) in
    fields-stop c.args.parts.now (drop c.loop-i.i (texts_of c.args.run.now)) (line_at c.args.run.now c.loop-i.i) (drop (c.loop-i.i + 1) (texts_of c.args.run.now)) (field_texts c.loop-i.fields.items) _ at
    (search rules) c.loop-i.invariant

pub loop-i-preserved : goal.loop-i-preserved
unfolding option_field
loop-i-preserved c =
    let at = texts-at c.args.run.now c.loop-i.i (omega arith) in
    let field : Field = record { name = c.in_ok-name.name; value = c.in_ok-value.value } in
    let found : Some (field_text field) ≡ option_field c.args.parts.now (line_at c.args.run.now c.loop-i.i) (texts_of (take c.deep_len-deep.result (take (length c.args.run.now - (c.loop-i.i + 1)) (drop (c.loop-i.i + 1) c.args.run.now)))) = search rules in
    let given = found ∙ ap (option_field c.args.parts.now (line_at c.args.run.now c.loop-i.i)) (below-texts c.args.run.now (c.loop-i.i + 1) c.deep_len-deep.result c.deep_len-deep.ensures.value) in
    let items : c.push.new.self.items ≡ c.loop-i.fields.items ++ field ∷ [] = c.in_ok-push.ensures.items in
    let past : c.loop-i.i + (1 + c.deep_len-deep.result) ≡ c.loop-i.i + 1 + deep_len (drop (c.loop-i.i + 1) (texts_of c.args.run.now)) = omega (arith, c.deep_len-deep.ensures.value, ap deep_len (texts_after c.args.run.now (c.loop-i.i + 1))) in
    let place = ap (λ n. drop n (texts_of c.args.run.now)) past ∙ sym (drop-drop (deep_len (drop (c.loop-i.i + 1) (texts_of c.args.run.now))) (c.loop-i.i + 1) (texts_of c.args.run.now)) in
    ap (λ xs. after_fields (field_texts xs) (fields_in c.args.parts.now (drop (c.loop-i.i + (1 + c.deep_len-deep.result)) (texts_of c.args.run.now)))) items
    ∙ ap (λ fs. after_fields fs (fields_in c.args.parts.now (drop (c.loop-i.i + (1 + c.deep_len-deep.result)) (texts_of c.args.run.now)))) (map-append field_text c.loop-i.fields.items (field ∷ []))
    ∙ ap (λ rest. after_fields (field_texts c.loop-i.fields.items ++ field_text field ∷ []) (fields_in c.args.parts.now rest)) place
    ∙ fields-more c.args.parts.now (drop c.loop-i.i (texts_of c.args.run.now)) (line_at c.args.run.now c.loop-i.i) (drop (c.loop-i.i + 1) (texts_of c.args.run.now)) (field_texts c.loop-i.fields.items) (field_text field) _ at
    given c.loop-i.invariant

pub returns : goal.returns
returns c = fields-end c.args.parts.now (texts_of c.args.run.now) c.loop-i.i (field_texts c.loop-i.fields.items) _ (omega (arith, length_texts c.args.run.now)) c.loop-i.invariant
