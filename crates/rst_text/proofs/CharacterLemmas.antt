-- What the tables hold for ASCII.
use Rattle.std.proofs.Common.{◌≡◌, ℕ, ◌<◌, refl}
use Rattle.std.specs.Char.{is_ascii_alphanumeric}
use Rattle.std.proofs.lemmas.Bool.{agree_below_at}
use Rattle.rst_text.specs.Characters.{is_alphanumeric}
use Rattle.rst_text.proofs.Computing.{rst_text}

-- the letters and numbers of ASCII
pub is_alphanumeric-ascii : (c : ℕ) → c < 128 → is_ascii_alphanumeric c ≡ is_alphanumeric c
unfolding rst_text
is_alphanumeric-ascii c h = agree_below_at is_ascii_alphanumeric is_alphanumeric 128 c refl h
