-- Neighbouring items of a list. No rule of markup: rows and columns of tables lie between neighbours.
use Rattle.std.specs.Prelude.{List, drop, zip}

-- each item of a list but the last, with the next one
abbrev pub neighbours : {X : Type 0} → List X → List (X × X)
neighbours xs = zip xs (drop 1 xs)
