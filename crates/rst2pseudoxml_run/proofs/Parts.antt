-- Where it makes no difference which parts of the wider profile are asked for.
use Rattle.std.proofs.Common.{◌≡◌, ◌∙◌, ℕ, Bool, true, false, ◌&&◌, List, length, refl, ap, Bor}
use Rattle.std.specs.Option.{IfSome}
use Rattle.std.specs.Prelude.{encode_utf8_all, if◌then◌else◌, nat_lt, Option, Some, None, Err}
use Rattle.std.proofs.lemmas.Bool.{or_parts}
use Rattle.rst_inline_scan.specs.Mail.{holds_at_sign}
use Rattle.rst_settings.specs.Parts.{no_parts}
use Rattle.rst_settings.specs.declared.Parts.{Parts as MarkupParts}
use Rattle.rst_text.specs.Text.{text_of}
use Rattle.rst2pseudoxml_run.specs.declared.end.End.TheVariants.{TooLong}
use Rattle.rst2pseudoxml_run.specs.Marks.{holds_dollar_sign, holds_handed, holds_mark, holds_part, holds_role_end, holds_wider_directive, holds_wider_role, parts_in}
use Rattle.rst2pseudoxml_run.specs.Parts.{NeedsMark}
use Rattle.rst2pseudoxml_run.specs.Reading.{held_parts}
use Rattle.rst2pseudoxml_run.specs.RunResult.{result_of_text}

module _ (without : MarkupParts → MarkupParts) (holds : MarkupParts → List ℕ → Bool) (alike : (asked : MarkupParts) (text : List ℕ) → holds asked text ≡ false → parts_in asked text ≡ parts_in (without asked) text) where
  -- the same parts hold in a text without a mark, whether the others are asked for or not
  held_alike : (asked : MarkupParts) (text : Option (List ℕ)) → IfSome text (λ text. holds asked (encode_utf8_all text) ≡ false) → held_parts asked text ≡ held_parts (without asked) text
  held_alike asked None none = refl
  held_alike asked (Some text) none = alike asked (encode_utf8_all text) none

  -- so the result is the same
  pub needs_mark : NeedsMark without holds
  needs_mark format profile settings source bytes none =
      ap (λ (parts : MarkupParts).
      if nat_lt 16777216 (length bytes) then Err TooLong else result_of_text format profile (record settings { parts = parts }) source bytes (text_of bytes)) (held_alike settings.parts (text_of bytes) none)

-- a part doesn't hold without its mark
off : (asked held : Bool) → held ≡ false → (asked && held) ≡ false
off true held none = none
off false held none = refl

module _ (asked : MarkupParts) (text : List ℕ) where
  abbrev back : Option (Bor (List ℕ))
  back = if holds_handed asked text then asked.handed else None

  -- the parts, each as it holds
  abbrev of : Bool → Bool → Bool → Bool → Bool → MarkupParts
  of marks mail roles directives keywords =
      record { marks = marks; mail = mail; roles = roles; directives = directives; unmarked = asked.unmarked; keywords = keywords; handed = back }

  abbrev marked : Bool
  marked = asked.marks && holds_role_end text

  abbrev mailed : Bool
  mailed = asked.mail && holds_at_sign text

  abbrev named : Bool
  named = asked.roles && holds_wider_role text

  abbrev directed : Bool
  directed = asked.directives && holds_wider_directive text

  abbrev keyed : Bool
  keyed = asked.keywords && holds_dollar_sign text

  pub unmarked : holds_role_end text ≡ false → parts_in asked text ≡ parts_in (record asked { marks = false }) text
  unmarked none = ap (λ marks. of marks mailed named directed keyed) (off asked.marks _ none)

  pub unmailed : holds_at_sign text ≡ false → parts_in asked text ≡ parts_in (record asked { mail = false }) text
  unmailed none = ap (λ mail. of marked mail named directed keyed) (off asked.mail _ none)

  pub unnamed : holds_wider_role text ≡ false → parts_in asked text ≡ parts_in (record asked { roles = false }) text
  unnamed none = ap (λ roles. of marked mailed roles directed keyed) (off asked.roles _ none)

  pub undirected : holds_wider_directive text ≡ false → parts_in asked text ≡ parts_in (record asked { directives = false }) text
  undirected none = ap (λ directives. of marked mailed named directives keyed) (off asked.directives _ none)

  pub unkeyed : holds_dollar_sign text ≡ false → parts_in asked text ≡ parts_in (record asked { keywords = false }) text
  unkeyed none = ap (λ keywords. of marked mailed named directed keywords) (off asked.keywords _ none)

  -- nothing is handed back where no name may stand
  pub unhanded : holds_handed asked text ≡ false → parts_in asked text ≡ parts_in (record asked { handed = None }) text
  unhanded none =
      ap (λ (b : Bool). record (of marked mailed named directed keyed) { handed = if b then asked.handed else None }) none

-- no part but `unmarked` holds in a text without the marks of the others
without_parts : (asked : MarkupParts) (text : List ℕ) → holds_part text ≡ false → parts_in asked text ≡ parts_in (record no_parts { unmarked = asked.unmarked; handed = asked.handed }) text
without_parts asked text none =
    let first = or_parts (holds_role_end text) _ none in
    let second = or_parts (holds_at_sign text) _ first.1 in
    let third = or_parts (holds_wider_role text) _ second.1 in
    let last = or_parts (holds_wider_directive text) _ third.1 in
    unmarked asked text first.0 ∙ unmailed (record asked { marks = false }) text second.0 ∙ unnamed (record asked { marks = false; mail = false }) text third.0
    ∙ undirected (record asked { marks = false; mail = false; roles = false }) text last.0
    ∙ unkeyed (record asked { marks = false; mail = false; roles = false; directives = false }) text last.1

-- no part but `unmarked` holds in a text without marks
pub none_held : (asked : MarkupParts) (text : List ℕ) → holds_mark asked text ≡ false → parts_in asked text ≡ parts_in (record no_parts { unmarked = asked.unmarked }) text
none_held asked text none =
    let all = or_parts (holds_handed asked text) _ none in
    unhanded asked text all.0 ∙ without_parts (record asked { handed = None }) text all.1
