use Rattle.std.proofs.Common.{◌≡◌, ◌∙◌, [], length, arith, rules}
use Rattle.std.specs.List.{range_with_len}
use Rattle.std.proofs.lemmas.List.FromFn.{length-range_with_len}
use Rattle.std.proofs.lemmas.Simd.{splat_is_map}
use Rattle.rst_transform_references.proofs.Grouping.{found_with}
use Rattle.rst_transform_references.proofs.indirect.references_to_each.Goals as goal

pub loop-place-init : goal.loop-place-init
loop-place-init c =
    let count = length c.args.targets.now in c.in_ok-lists.ensures ∙ splat_is_map (range_with_len 0 count) count [] (length-range_with_len 0 count)

pub loop-place-preserved : goal.loop-place-preserved
loop-place-preserved c =
    rw (c.in_ok-add_reference.ensures, c.loop-place.invariant) (found_with c.args.targets.now c.loop-place.place _ (search rules))

pub returns : goal.returns
returns c =
    let past : c.loop-place.place ≡ length c.args.targets.now = omega arith in rw past at c.loop-place.invariant
