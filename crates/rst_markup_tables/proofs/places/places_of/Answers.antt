use Rattle.std.proofs.Common.{◌≡◌, ◌∙◌, ap, sym, map, arith}
use Rattle.std.proofs.lemmas.List.{append-nil, drop_all}
use Rattle.std.proofs.lemmas.Str.{chars-IsAscii}
use Rattle.rst_markup_tables.specs.Places.{places_of}
use Rattle.rst_markup_tables.specs.declared.places.Place.TheVariants.{Character}
use Rattle.rst_markup_tables.proofs.CellLemmas.{places-ascii}
use Rattle.rst_markup_tables.proofs.places.places_of.Goals as goal

pub returns-then-is_ascii : goal.returns-then-is_ascii
returns-then-is_ascii c =
    let low = c.if-is_ascii.ensures.cases in
    let made : c.loop-byte.places.items ≡ map Character c.as_bytes-bytes.result.now =
    sym (append-nil c.loop-byte.places.items) ∙ rw (drop_all c.loop-byte.byte-index c.as_bytes-bytes.result.now (omega arith)) at c.loop-byte.invariant.all in
    made ∙ sym (places-ascii _ (rw c.as_bytes-bytes.ensures.value low)) ∙ ap places_of (c.as_bytes-bytes.ensures.value ∙ sym (chars-IsAscii c.args.text.now low))
