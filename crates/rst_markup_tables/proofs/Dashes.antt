-- The rule between head and body, with a dash for each `=`.
use Rattle.std.proofs.Common.{◌≡◌, ℕ, ◌==◌, ◌||◌, ◌⊎◌, inl, inr, Bool, true, false, if◌then◌else◌, List, [], ◌∷◌, map, refl}
use Rattle.std.specs.List.{AllByRecursion}
use Rattle.std.proofs.lemmas.Bool.{and_parts, eqb-true}
use Rattle.rst_markup_tables.specs.Cells.{characters}
use Rattle.rst_markup_tables.specs.GridTable.{dash}
use Rattle.rst_markup_tables.specs.Places.{consists_of}
use Rattle.rst_markup_tables.specs.declared.places.Place.{Place}
use Rattle.rst_markup_tables.specs.declared.places.Place.TheVariants.{Character, Second}

-- `-` or `+`
abbrev pub IsDash : ℕ → Type 0
IsDash c = (c ≡ 45) ⊎ (c ≡ 43)

pub dashed-characters : (ps : List Place) → consists_of 61 43 ps ≡ true → AllByRecursion IsDash (characters (map dash ps))
dashed-characters [] h = tt
dashed-characters (Character c ∷ ps) h = let t = and_parts (c == 61 || c == 43) (consists_of 61 43 ps) h in by (c == 61) t.0 (dashed-characters ps t.1)
  where
    by : (b : Bool) → (b || c == 43) ≡ true → AllByRecursion IsDash (characters (map dash ps))
        → AllByRecursion IsDash (characters ((if b then Character 45 else Character c) ∷ map dash ps))
    by true mark rest = (inl refl, rest)
    by false mark rest = (inr (eqb-true c 43 mark), rest)
dashed-characters (Second ∷ ps) h = absurd cc
