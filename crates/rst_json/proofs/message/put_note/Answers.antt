use Rattle.std.proofs.Common.{◌≡◌, ◌++◌, ◌∙◌, sym, append-nil, append_assoc}
use Rattle.std.specs.List.{flat_map}
use Rattle.rst_json.specs.Json.{after_comma, json_block}
use Rattle.rst_json.proofs.JsonLemmas.{note_put}
use Rattle.rst_json.proofs.message.put_note.Goals as goal
use Rattle.rst_json.proofs.message.put_note.Goals.{in-Some+in_ok-extend_from_slice-5+in_ok-put_string-3, in_default}

pub returns : goal.returns
returns c =
    let block : c.match-note.out.items ≡ c.put_string-2.new.out.items ++ flat_map after_comma (json_block c.args.note.now.block) = elim c.match-note.branch [
      | in-Some+in_ok-extend_from_slice-5+in_ok-put_string-3 w ↦
          rw (w.out-is, w.in_ok-put_string-3.ensures, w.in_ok-extend_from_slice-5.ensures.items, w.as_bytes-in-Some.ensures, w.in-Some.is) (simp append_assoc)
      | in_default w ↦ rw (w.out-is, w.in_default.is) (sym (append-nil c.put_string-2.new.out.items))
    ] in
    c.in_ok-push.ensures.items
    ∙ rw (
      block,
      c.in_ok-put_string-2.ensures,
      c.in_ok-extend_from_slice-4.ensures.items,
      c.in_ok-put_string.ensures,
      c.in_ok-extend_from_slice-3.ensures.items,
      c.in_ok-put_number-2.ensures,
      c.in_ok-extend_from_slice-2.ensures.items,
      c.in_ok-put_number.ensures,
      c.in_ok-extend_from_slice.ensures.items,
      c.as_bytes-2.ensures,
    )
    (note_put c.args.note.now c.args.out.now.items c.as_bytes.result.now c.from.result (c.as_bytes.ensures.value ∙ c.name.ensures) (c.from.ensures ∙ c.number.ensures))
