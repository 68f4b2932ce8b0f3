-- How looks at lines are counted. No rule of markup: the counts bound the time.
use Rattle.std.specs.Prelude.{ℕ, ◌+◌, ◌-◌, ◌^◌, ◌≤◌, min}

-- the largest count
abbrev pub most : ℕ
most = 2 ^ 128 - 1

-- a count that would be larger than the largest one stops there
abbrev pub capped : ℕ → ℕ
capped n = min n most

-- what was counted before a call and after it: at least `least` looks more, if that can be counted, and at most `most`
abbrev pub Looked : ℕ → ℕ → ℕ → ℕ → Type 0
Looked least most before after = (capped (before + least) ≤ after) × (after ≤ before + most)
