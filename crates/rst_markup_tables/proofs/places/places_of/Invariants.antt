use Rattle.std.proofs.Common.{◌≡◌, ◌++◌, drop, length, vec_len, vec_capacity}
use Rattle.std.specs.Prelude.{map, chars}
use Rattle.rst_markup_tables.specs.Places.{places_of}
use Rattle.rst_markup_tables.specs.declared.places.Place.TheVariants.{Character}
use Rattle.rst_markup_tables.proofs.places.places_of.Given as goal

abbrev pub invariant-loop-byte : goal.invariant-loop-byte
invariant-loop-byte l = record {
  all : l.places.items ++ map Character (drop l.byte-index l.bytes) ≡ map Character l.bytes;
  len : vec_len l.places ≡ l.byte-index;
  room : vec_capacity l.places ≡ length l.bytes;
}

abbrev pub invariant-loop-c : goal.invariant-loop-c
invariant-loop-c l = l.places.items ++ places_of (drop l.c-index l.c-items) ≡ places_of (chars l.text)
