-- What is made of a thing. No rule of markup: several transforms give a thing back of which they can make nothing.
use Rattle.std.specs.Prelude.{◌≡◌, Option, Some, None, Result, MatchResult}

-- what is wanted was made of a thing; where nothing is, that came back
abbrev pub IsMadeOf : {A B : Type 0} → B → Option A → Result A B → Type 0
IsMadeOf thing wanted made = MatchResult made (λ one. wanted ≡ Some one) (λ back. (back ≡ thing) × (wanted ≡ None))
