-- What the rows of a grid table are.
use Rattle.std.proofs.Common.{◌≡◌, ℕ, ◌+◌, List, length, sym, ap, ap₂, ◌∙◌, subst, Option, Some, None}
use Rattle.rst_markup_tables.specs.Places.{Grid}
use Rattle.rst_markup_tables.specs.Drawn.{IsTiling, Tiles}
use Rattle.rst_markup_tables.specs.GridTable.{head_of, with_dashes, tiled, tiled_table, IsOfRows}
use Rattle.rst_markup_tables.specs.declared.drawn.Rectangle.{Rectangle}
use Rattle.rst_markup_tables.specs.declared.results.TableDetail.{TableDetail}
use Rattle.rst_markup_tables.specs.declared.results.TableResult.{TableResult}
use Rattle.rst_markup_tables.proofs.RowLemmas.{dashes-length}

pub with_tiling : (line i : ℕ) (T G : Grid) (head : Option ℕ) (rs : List Rectangle) (table : TableResult) (fault : Option TableDetail) → fault ≡ None → G ≡ with_dashes T (head_of T) → head ≡ head_of T
    → IsTiling G rs → table ≡ tiled_table head G rs (i + length T) → IsOfRows line i T fault table
with_tiling line i T G head rs table fault none is same t table_is =
    let end : i + length T ≡ i + length (with_dashes T (head_of T)) = ap (λ n. i + n) (sym (dashes-length T (head_of T))) in
    let whole : tiled_table head G rs (i + length T) ≡ tiled line i (head_of T) (with_dashes T (head_of T)) (Some rs) =
    ap (λ h. tiled_table h G rs (i + length T)) same ∙ ap₂ (λ (X : Grid) n. tiled_table (head_of T) X rs n) is end in
    subst (λ (f : Option TableDetail). IsOfRows line i T f table) (sym none) (Some rs, subst (λ (X : Grid). Tiles X (Some rs)) is t, table_is ∙ whole)
