use Rattle.std.proofs.Common.{◌≡◌, ◌≤◌, length}
use Rattle.rst_markup_lines.specs.Roman.{digit_at, digit_to, roman_digits}
use Rattle.rst_markup_lines.proofs.roman.digit_at.Given as goal

abbrev pub invariant-loop-digit : goal.invariant-loop-digit
invariant-loop-digit l =
    (digit_at (roman_digits l.fn.case l.fn.place) l.letters ≡ digit_to (roman_digits l.fn.case l.fn.place) l.digit l.letters) × (l.digit ≤ length l.roman_digits)

abbrev pub decreases-loop-digit : goal.decreases-loop-digit
decreases-loop-digit l = l.digit
