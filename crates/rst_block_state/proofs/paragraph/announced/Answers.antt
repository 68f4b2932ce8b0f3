use Rattle.std.proofs.Common.{◌≡◌, ◌<◌, ◌⊎◌, inl, inr, List, ℕ, length, true, false, sym, ◌∙◌, rules}
use Rattle.std.specs.Str.{chars}
use Rattle.rst_text.specs.Block.{is_blank}
use Rattle.rst_markup_lines.specs.Closing.{ends_in_colons}
use Rattle.rst_block_state.proofs.AnnouncedLemmas.{both_off, one_off, IsBare, before_colons, announced_all, announced_bare, announced_one}
use Rattle.rst_block_state.proofs.paragraph.announced.Goals.{then-bare-before-via-then-bare-before, then-bare-before-via-else-bare-before+then-is_blank}
use Rattle.rst_block_state.proofs.paragraph.announced.Goals as goal

pub returns-then-not-ends_in_colons : goal.returns-then-not-ends_in_colons
returns-then-not-ends_in_colons c =
    let plain : ends_in_colons (chars c.args.text.now) ≡ false = sym c.ends_in_colons.ensures ∙ (let p : c.ends_in_colons.result ≡ false = search rules in p) in
    announced_all (chars c.args.text.now) plain

pub returns-then-bare-before : goal.returns-then-bare-before
returns-then-bare-before c =
    let s : List ℕ = c.args.text.now in
    let before : List ℕ = c.unwrap_or-before.result.now in
    let bare : List ℕ = c.trim_end-bare.result.now in
    let colons : ends_in_colons (chars s) ≡ true = sym c.ends_in_colons.ensures ∙ (let p : c.ends_in_colons.result ≡ true = search rules in p) in
    let off : chars before ≡ before_colons (chars s) = both_off s c.strip_suffix.result c.args.text c.unwrap_or-before.result c.utf8.text colons c.strip_suffix.ensures.cases c.unwrap_or-before.ensures c.unwrap_or-before.utf8 in
    let is : IsBare before bare = record { good = c.unwrap_or-before.utf8; utf8 = c.trim_end-bare.utf8; value = c.trim_end-bare.ensures.trim } in
    let why : (length bare < length before) ⊎ (is_blank (chars bare) ≡ true) = elim c.then-bare-before.branch [
      | then-bare-before-via-then-bare-before w ↦ inl w.if-bare-before.true
      | then-bare-before-via-else-bare-before+then-is_blank w ↦ inr (sym w.is_blank.ensures ∙ w.if-is_blank.true)
    ] in
    announced_bare s before bare colons off is why

pub returns : goal.returns
returns c =
    let s : List ℕ = c.args.text.now in
    let before : List ℕ = c.unwrap_or-before.result.now in
    let bare : List ℕ = c.trim_end-bare.result.now in
    let colons : ends_in_colons (chars s) ≡ true = sym c.ends_in_colons.ensures ∙ (let p : c.ends_in_colons.result ≡ true = search rules in p) in
    let off : chars before ≡ before_colons (chars s) = both_off s c.strip_suffix.result c.args.text c.unwrap_or-before.result c.utf8.text colons c.strip_suffix.ensures.cases c.unwrap_or-before.ensures c.unwrap_or-before.utf8 in
    let is : IsBare before bare = record { good = c.unwrap_or-before.utf8; utf8 = c.trim_end-bare.utf8; value = c.trim_end-bare.ensures.trim } in
    let filled : is_blank (chars bare) ≡ false = sym c.is_blank.ensures ∙ c.if-is_blank.false in
    announced_one s before bare c.unwrap_or.result.now colons off is c.if-bare-before.false filled
    (one_off s c.strip_suffix-2.result c.args.text c.unwrap_or.result c.utf8.text colons c.strip_suffix-2.ensures.cases c.unwrap_or.ensures c.unwrap_or.utf8)
