-- Borders of tables (Markup Specification, 'Grid Tables', 'Simple Tables').
use Rattle.std.specs.Prelude.{ℕ, ◌-◌, Bool, ◌&&◌, ◌==◌, nat_le, List, drop, length}
use Rattle.std.specs.List.{list_all, list_any}
use Rattle.rst_markup_lines.specs.TextStart.{begins_with}
use Rattle.rst_markup_lines.specs.Class.{is_in}
use Rattle.rst_markup_lines.specs.declared.class.Class.TheVariants.{Either}

-- five or more of `-` and `+` and nothing else, where `+-` comes first and `-+` last
unfoldable pub is_grid_border : List ℕ → Bool
is_grid_border t =
    nat_le 5 (length t) && (list_all (is_in (Either 45 43)) t
    && (begins_with 43 t && (begins_with 45 (drop 1 t) && (begins_with 45 (drop (length t - 2) t) && begins_with 43 (drop (length t - 1) t)))))

-- nothing but `=` and spaces, of which `=` comes first and last and a space between
unfoldable pub is_simple_border : List ℕ → Bool
is_simple_border t =
    list_all (is_in (Either 61 32)) t && (begins_with 61 t && (list_any (λ c. c == 32) t && begins_with 61 (drop (length t - 1) t)))
