-- The construct at a line is the one with the mark that is found there.
use Rattle.std.proofs.Common.{◌≡◌, Bool, sym, ap, ◌∙◌}
use Rattle.std.specs.Option.{option_map_or}
use Rattle.rst_text.specs.Block.{Block}
use Rattle.rst_markup_blocks.specs.Begun.{IsBegun}
use Rattle.rst_markup_blocks.specs.declared.begun.Begun.{Begun}
use Rattle.rst_markup_blocks.specs.declared.begun.Begun.TheVariants.{Bullet, Enumerator, Field, OptionItem, Line, Adornment}
use Rattle.rst_block_state.specs.machine.Begins.{construct_with}
use Rattle.rst_block_state.specs.Constructs.{bullet_item, enumerated_item, field_item, option_item, item_of_list, bar_line, adorned, bullet_with, plain_text, construct_at, construct_by}

pub marks_tell_constructs : (begun : Begun) (titles : Bool) (X : Block) → IsBegun X begun → construct_at titles X ≡ construct_with begun titles X
marks_tell_constructs (Bullet mark marker) titles X h =
    ap (λ k. construct_by k titles X) (sym h.kind)
    ∙ ap (λ o. option_map_or (bullet_with titles X) o (plain_text titles X)) h.mark.0
    ∙ ap (λ o. option_map_or (λ m. item_of_list (bullet_item mark m)) o (plain_text titles X)) h.mark.1
marks_tell_constructs (Enumerator e) titles X h =
    ap (λ k. construct_by k titles X) (sym h.kind) ∙ ap (λ o. option_map_or (λ e. item_of_list (enumerated_item e)) o (plain_text titles X)) h.mark
marks_tell_constructs (Field m) titles X h =
    ap (λ k. construct_by k titles X) (sym h.kind) ∙ ap (λ o. option_map_or (λ m. item_of_list (field_item m)) o (plain_text titles X)) h.mark
marks_tell_constructs (OptionItem marker) titles X h =
    ap (λ k. construct_by k titles X) (sym h.kind) ∙ ap (λ o. option_map_or (λ m. item_of_list (option_item m)) o (plain_text titles X)) h.mark
marks_tell_constructs (Line marker) titles X h =
    ap (λ k. construct_by k titles X) (sym h.kind) ∙ ap (λ o. option_map_or bar_line o (plain_text titles X)) h.mark
marks_tell_constructs (Adornment mark) titles X h =
    ap (λ k. construct_by k titles X) (sym h.kind) ∙ ap (λ o. option_map_or (adorned titles X) o (plain_text titles X)) h.mark
marks_tell_constructs _ titles X h = ap (λ k. construct_by k titles X) (sym h.kind)
