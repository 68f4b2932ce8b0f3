use Rattle.std.proofs.Common.{◌≡◌, ◌+◌, ◌++◌, ◌∷◌, [], ap₂, sym, ◌∙◌, arith}
use Rattle.std.proofs.lemmas.List.FromFn.{map-range_with_len_more}
use Rattle.std.proofs.lemmas.Bool.Decides.{nat_tests}
use Rattle.rst_markup_tables.specs.Drawn.{is_across}
use Rattle.rst_markup_tables.specs.Search.{run_begin}
use Rattle.rst_markup_tables.proofs.Frames.{run_more}
use Rattle.rst_markup_tables.proofs.drawn.begins_of.Goals as goal

pub loop-column-preserved : goal.loop-column-preserved
unfolding is_across
loop-column-preserved c =
    let row = c.places-row.result.now in
    let k = c.loop-column.column in
    let last : c.if-mark_at-ne45.begin ≡ run_begin row (k + 1) = grind (arith, nat_tests, run_more row k) in
    record { all = c.in_ok-push.ensures.items ∙ ap₂ (λ l b. l ++ b ∷ []) c.loop-column.invariant.all last ∙ sym (map-range_with_len_more (λ j. run_begin row (j + 1)) 0 k k (omega arith)); last = last }
