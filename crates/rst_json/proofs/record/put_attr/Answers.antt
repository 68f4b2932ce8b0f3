use Rattle.std.proofs.Common.{rules, ◌≡◌, ◌++◌, ◌∙◌, ◌&&◌, Bool, true, false, not, ap, append_assoc, refl, sym}
use Rattle.rst_json.specs.Records.{sized, value_record, word}
use Rattle.rst_json.proofs.RecordLemmas.{sealed}
use Rattle.rst_tree.specs.KeyNames.{key_name}
use Rattle.rst_tree.specs.Print.{is_left_out}
use Rattle.rst_json.proofs.record.put_attr.Goals.{else-not-all-via-then-not-all+else-is_left_out, else-not-all-via-else-not-all}
use Rattle.rst_json.proofs.record.put_attr.Goals as goal

and_false : (b : Bool) → (b && false) ≡ false
and_false true = refl
and_false false = refl

pub returns : goal.returns
returns c =
    let a = c.args.attr.now in
    let included : (not c.args.all && is_left_out a) ≡ false = elim c.else-not-all.branch [
      | else-not-all-via-then-not-all+else-is_left_out w ↦ ap (λ left. not c.args.all && left) (sym w.is_left_out.ensures ∙ w.if-is_left_out.false) ∙ and_false (not c.args.all)
      | else-not-all-via-else-not-all w ↦ ap (λ b. not b && is_left_out a) w.if-not-all.false
    ] in
    sealed c.args.out.now.items (sized (key_name a.key) ++ value_record a.value) c.put_value.new.out.items c.seal.new.out.items c.len-start.result (search rules)
    (c.in_ok-put_value.ensures
    ∙ rw (c.in_ok-put_sized.ensures, c.in_ok-put_word.ensures, c.attribute_name.ensures, c.key.ensures, c.as_value.ensures)
    (append_assoc (c.args.out.now.items ++ word 0) (sized (key_name a.key)) (value_record a.value)))
    c.seal.ensures
    ∙ rw included refl
