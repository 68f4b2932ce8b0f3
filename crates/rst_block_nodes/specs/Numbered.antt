-- What is read of lines in order, with the numbers of the messages on texts, or the line at which blocks are nested too deeply (Markup
-- Specification, 'Body Elements'; Document Tree, 'system_message').
use Rattle.std.specs.Prelude.{ℕ, List, [], ◌∷◌, Result, Ok, Err}

-- Something that is read, where the next message on a text gets a number: what it is, and the number of the message after it. Or blocks are
-- nested too deeply: the number of the line at which the first block begins that is too deep. The numbers of messages are no rule of markup:
-- they join a message to the elements that it is on, and are counted in the order of reading.
abbrev pub Numbered : Type 0 → Type 0
Numbered A = ℕ → Result (A × ℕ) ℕ

-- what follows something that was read; after blocks that are nested too deeply nothing is read
abbrev pub then_read : {A B : Type 0} → (A → Numbered B) → Result (A × ℕ) ℕ → Result (B × ℕ) ℕ
then_read next (Ok (a, number)) = next a number
then_read next (Err line) = Err line

-- something is read, and then what follows it
infixl 10 ◌>>=◌
abbrev pub ◌>>=◌ : {A B : Type 0} → Numbered A → (A → Numbered B) → Numbered B
read >>= next = λ number. then_read next (read number)

-- something in which no text is read
abbrev pub just : {A : Type 0} → A → Numbered A
just a = λ number. Ok (a, number)

-- what is read of each of some things, in order
abbrev pub each : {S A : Type 0} → (S → Numbered A) → List S → Numbered (List A)
each read [] = just []
each read (s ∷ ss) = do
  a ← read s
  others ← each read ss
  just (a ∷ others)
