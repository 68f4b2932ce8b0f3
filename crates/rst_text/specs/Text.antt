-- The text that bytes spell in UTF-8 (Configuration, 'input_encoding').
use Rattle.std.specs.Prelude.{◌≡◌, ℕ, List, [], ◌∷◌, ◌==◌, if◌then◌else◌, Option, None, Some, IsSome, Result, Ok, Err}
use Rattle.std.specs.declared.string.String.{String}
use Rattle.std.specs.Prelude.{string_bytes}
use Rattle.std.specs.Str.{is_utf8, chars}
use Rattle.std.specs.Str.Lossy.{utf8_valid_len}
use Rattle.rst_text.specs.declared.fault.TextFault.{TextFault}
use Rattle.rst_text.specs.declared.fault.TextFault.TheVariants.{NotUtf8, NoMemory}

-- characters without one byte order mark at their front
abbrev pub without_mark : List ℕ → List ℕ
without_mark [] = []
without_mark (c ∷ cs) = if c == 0xFEFF then cs else c ∷ cs

-- the characters whose UTF-8 the bytes are, without a mark; none where the bytes are no UTF-8
abbrev pub text_of : List ℕ → Option (List ℕ)
text_of bytes = if is_utf8 bytes then Some (without_mark (chars bytes)) else None

-- the characters of a `String`
abbrev pub chars_of : {A : Type 0} → String A → List ℕ
chars_of text = chars (string_bytes text)

-- the fault of bytes that have no text: it is at the length of their longest front that is UTF-8
abbrev pub IsWrong : List ℕ → TextFault → Type 0
IsWrong bytes (NotUtf8 at) = (text_of bytes ≡ None) × (at ≡ utf8_valid_len bytes)
IsWrong bytes NoMemory = ⊥

-- Decoding gives the text of the bytes. It refuses just the bytes that have none, and memory can run out only where there is
-- a text.
abbrev pub Decodes : {A : Type 0} → List ℕ → Result (String A) TextFault → Type 0
Decodes bytes (Ok text) = text_of bytes ≡ Some (chars_of text)
Decodes bytes (Err NoMemory) = IsSome (text_of bytes)
Decodes bytes (Err fault) = IsWrong bytes fault
