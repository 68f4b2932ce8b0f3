-- What searches before a place have found to be absent after it. No rule of markup: it keeps the scanner's time linear.
use Rattle.std.specs.Prelude.{◌≡◌, ℕ, ◌<◌, ◌≤◌, true, None, slice_index}
use Rattle.rst_text.specs.Characters.{Text}
use Rattle.rst_inline_scan.specs.Marked.{has_start, markup_end}
use Rattle.rst_inline_scan.specs.Names.{name_end}
use Rattle.rst_inline_scan.specs.Uri.{uri_end}
use Rattle.rst_inline_scan.specs.Mail.{address_end}
use Rattle.rst_inline_scan.specs.declared.piece.Markup.{Markup}
use Rattle.rst_inline_scan.specs.declared.piece.Markup.TheVariants.{Strong, Emphasis, Literal, Target, Substitution, Interpreted}
use Rattle.rst_inline_scan.specs.declared.missing.Missing.{Missing}

-- the place of the markup in the list of what is remembered
abbrev pub code : Markup → ℕ
code Strong = 0
code Emphasis = 1
code Literal = 2
code Target = 3
code Substitution = 4
code Interpreted = 5

-- no start-string of the markup at or past `low` has an end
abbrev pub IsUnended : Markup → Text → ℕ → Type 0
IsUnended markup t low = (i q : ℕ) → i ≤ q → low ≤ q → has_start markup t q ≡ true → markup_end markup t i q ≡ None

-- what is remembered is true at and past the place
pub record IsMissing (t : Text) (missing : Missing) (place : ℕ) : Type 0 where
  pub unended : (markup : Markup) → IsUnended markup t (slice_index missing.unended (code markup))
  pub names : (i : ℕ) → place ≤ i → i < missing.names → name_end t i ≡ None
  pub uris : (i : ℕ) → place ≤ i → i < missing.uris → uri_end t i ≡ None

-- no address begins at the place or past it, up to another place
abbrev pub HasNoAddress : Text → ℕ → ℕ → Type 0
HasNoAddress t place searched = (i : ℕ) → place ≤ i → i < searched → address_end t i ≡ None
