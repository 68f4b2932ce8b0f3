use Rattle.std.proofs.Common.{◌≡◌, arith}
use Rattle.std.proofs.lemmas.Grind.{common_steps}
use Rattle.rst_transform_structure.specs.Passing.{holder_of}
use Rattle.rst_transform_structure.proofs.Passing.{Passes-more}
use Rattle.rst_transform_structure.proofs.targets.pass.Goals as goal

pub loop-name-preserved-in-Some : goal.loop-name-preserved-in-Some
loop-name-preserved-in-Some c =
    let holder : c.map_or-holder.result ≡ holder_of c.in-Some.number = grind (arith, common_steps) in
    Passes-more c.loop-name.yielded (c.in-Some.name, c.in-Some.number) c.as_str.result.now c.map_or-holder.result c.args.names.now c.loop-name.names c.move_to.new.self c.loop-name.invariant c.as_str.ensures holder c.move_to.ensures

pub loop-name-preserved : goal.loop-name-preserved
loop-name-preserved c =
    let holder : c.map_or-holder.result ≡ holder_of c.in-Some.number = grind (arith, common_steps) in
    Passes-more c.loop-name.yielded (c.in-Some.name, c.in-Some.number) c.as_str.result.now c.map_or-holder.result c.args.names.now c.loop-name.names c.move_to.new.self c.loop-name.invariant c.as_str.ensures holder c.move_to.ensures
