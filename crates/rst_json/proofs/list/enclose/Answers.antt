use Rattle.std.proofs.Common.{rules, arith, ◌≤◌, ◌<◌, ◌+◌, length, ◌∙◌, append_assoc, add-one}
use Rattle.std.proofs.lemmas.List.{drop_all, set_split, take_all}
use Rattle.rst_json.proofs.list.enclose.Goals as goal
use Rattle.rst_json.proofs.list.enclose.Goals.{then-start-len, else-start-len+in_ok-push}

pub returns : goal.returns
returns c =
    c.in_ok-push-2.ensures.items ∙ elim c.if-start-len.branch [
      | then-start-len w ↦
          let fits : c.args.start < length c.args.out.now.items = search rules in
          rw (w.out-is, set_split c.args.out.now.items c.args.start c.args.left fits, add-one) (simp append_assoc)
      | else-start-len+in_ok-push w ↦
          let whole : length c.args.out.now.items ≤ c.args.start = search rules in
          rw (w.out-is, w.in_ok-push.ensures.items, take_all c.args.start c.args.out.now.items whole, drop_all (c.args.start + 1) c.args.out.now.items (omega arith)) (simp append_assoc)
    ]
