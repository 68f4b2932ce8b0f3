-- Parts of a view are blocks of it.
use Rattle.std.proofs.Common.{◌≡◌, ℕ, ◌+◌, ◌-◌, ◌<◌, ◌≤◌, false, length, take, drop, length-drop, arith, refl, sym, ap, ◌∙◌}
use Rattle.std.proofs.lemmas.List.{drop-drop}
use Rattle.rst_text.specs.Block.{Block}
use Rattle.rst_text.specs.Extent.{extent, extent_of}
use Rattle.rst_text.specs.MayCut.{is_indented}
use Rattle.rst_text.proofs.CutLaws.{take_of}
use Rattle.rst_text.proofs.Indented.{is_indented-extent, is_indented-part, is_indented-rest, is_indented-take}
use Rattle.rst_text.proofs.Reaches.{extent_indented}
use Rattle.rst_markup_lines.specs.declared.marker.Marker.{Marker}
use Rattle.rst_markup_blocks.specs.Parts.{IsBlock}
use Rattle.rst_markup_blocks.proofs.RowLaws.{extent_le, below_le}
use Rattle.rst_markup_blocks.specs.Sizes.{item_size, least_below}
use Rattle.rst_markup_blocks.specs.declared.part.Part.{Part}
use Rattle.rst_text.specs.declared.view.Extent.{Extent}

-- the indented lines from a place on
pub indented_block : (B : Block) (from : ℕ) (e : Extent) → from ≤ length B → e ≡ extent_of from 1 (drop from B)
    → let p : Part = record { from = from; to = e.end; first_cut = e.indent; rest_cut = e.indent } in IsBlock B p
indented_block B from e h is =
    let X : Block = drop from B in
    let end : e.end ≡ from + extent 1 X = ap (λ x. x.end) is in
    let lines : e.end - from ≡ extent 1 X = omega arith in
    record {
      ordered = omega arith;
      within = omega (arith, extent_le 1 X, length-drop from B);
      indented = is_indented-rest e.indent from e.end B (rw lines (rw is (is_indented-extent from 1 X)));
    }

-- an item's lines
pub item_block : (B : Block) (i end : ℕ) (m : Marker) → i < length B → m.bare ≡ false → end ≡ i + item_size m (drop i B)
    → let p : Part = record { from = i; to = end; first_cut = m.cut; rest_cut = m.cut } in IsBlock B p
unfolding least_below
item_block B i end m h bare is =
    let X : Block = drop i B in
    let below : drop (i + 1) B ≡ drop 1 X = sym (drop-drop 1 i B) in
    let least : least_below m ≡ m.cut = rw bare refl in
    let lines : end - (i + 1) ≡ extent m.cut (drop 1 X) = omega (arith, ap (λ k. extent k (drop 1 X)) least) in
    record {
      ordered = omega arith;
      within = omega (arith, below_le (least_below m) X (omega (arith, length-drop i B)), length-drop i B);
      indented = rw lines (rw below (extent_indented m.cut (drop 1 X)));
    }

-- the first lines of a block
pub first_lines_block : (B : Block) (p : Part) (k : ℕ) → IsBlock B p → p.from + k ≤ p.to
    → let q : Part = record { from = p.from; to = p.from + k; first_cut = p.first_cut; rest_cut = p.rest_cut } in IsBlock B q
first_lines_block B p k b h = record {
  ordered = omega arith;
  within = omega (arith, b.within);
  indented =
      let fewer : p.from + k - (p.from + 1) ≤ p.to - (p.from + 1) = omega arith in
      ap (is_indented p.rest_cut) (sym (take_of 0 (p.from + k - (p.from + 1)) (p.to - (p.from + 1)) (drop (p.from + 1) B) (omega arith)))
      ∙ is_indented-take p.rest_cut (p.from + k - (p.from + 1)) (take (p.to - (p.from + 1)) (drop (p.from + 1) B)) b.indented;
}

-- the lines of a block after its first ones
pub rest_block : (B : Block) (p : Part) (k : ℕ) → IsBlock B p → p.from + k < p.to
    → let q : Part = record { from = p.from + k; to = p.to; first_cut = p.rest_cut; rest_cut = p.rest_cut } in IsBlock B q
rest_block B p k b h =
    let Y : Block = drop (p.from + 1) B in
    let place : drop (p.from + k + 1) B ≡ drop k Y = ap (λ i. drop i B) (let e : p.from + k + 1 ≡ (p.from + 1) + k = omega arith in e) ∙ sym (drop-drop k (p.from + 1) B) in
    let lines : p.to - (p.from + k + 1) ≡ p.to - (p.from + 1) - k = omega arith in
    record {
      ordered = omega arith;
      within = b.within;
      indented = rw place (rw lines (is_indented-part p.rest_cut k (p.to - (p.from + 1)) (p.to - (p.from + 1)) Y (omega arith) b.indented));
    }
