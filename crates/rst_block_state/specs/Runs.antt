-- Neighbours that are joined, as the items of one list are: maximal runs of them (Markup Specification, 'Bullet Lists', 'Line Blocks',
-- 'Explicit Markup Blocks').
use Rattle.std.specs.Prelude.{List, [], ◌∷◌, ◌++◌, Option}
use Rattle.std.specs.Option.{option_map_or}

-- neighbours that are joined: the first, and those after it
pub record Run (A : Type 0) : Type 0 where
  pub first : A
  pub others : List A

-- a run of one
abbrev pub alone : {A : Type 0} → A → Run A
alone x = record { first = x; others = [] }

-- a run with one more at its end
abbrev pub joined_by : {A : Type 0} → Run A → A → Run A
joined_by run x = record { first = run.first; others = run.others ++ x ∷ [] }

-- all members of a run, in order
abbrev pub run_members : {A : Type 0} → Run A → List A
run_members run = run.first ∷ run.others

-- the last of one and those after it
abbrev pub last_of : {A : Type 0} → A → List A → A
last_of x [] = x
last_of x (y ∷ ys) = last_of y ys

-- The runs of which the first has `run` so far, and `joining` decides what joins it. One that joins the run changes what joins it next; any other
-- begins the next run.
abbrev pub runs_from : {A G : Type 0} → (A → G) → (G → A → Option G) → G → Run A → List A → List (Run A)
runs_from begins joins joining run [] = run ∷ []
runs_from begins joins joining run (x ∷ xs) =
    option_map_or (λ next. runs_from begins joins next (joined_by run x) xs) (joins joining x)
    (run ∷ runs_from begins joins (begins x) (alone x) xs)

-- The runs of some things: `begins x` decides what joins a run that begins with x, and `joins joining x` whether x joins a run, and what joins it
-- next.
abbrev pub runs : {A G : Type 0} → (A → G) → (G → A → Option G) → List A → List (Run A)
runs begins joins [] = []
runs begins joins (x ∷ xs) = runs_from begins joins (begins x) (alone x) xs
