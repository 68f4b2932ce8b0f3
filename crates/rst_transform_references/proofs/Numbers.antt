-- What becomes of footnotes and the references that find them by their orders, put together.
use Rattle.std.proofs.Common.{◌≡◌, ◌∙◌, ℕ, List, [], ◌∷◌, ap}
use Rattle.std.specs.Prelude.{slice_get, Some}
use Rattle.rst_transform_work.specs.declared.context.Context.{Context}
use Rattle.rst_transform_work.specs.Known.{Makes}
use Rattle.rst_transform_work.specs.Reading.{line_of}
use Rattle.rst_transform_references.specs.declared.orders.Order.{Order}
use Rattle.rst_transform_references.specs.Footnotes.{footnotes, left_over, too_many}
use Rattle.rst_transform_references.specs.Failing.{fail_for}
use Rattle.rst_transform_references.specs.Links.{node_at}
use Rattle.rst_transform_references.specs.Table.{Links}

-- those that are left over
pub over : (order : Order) (footnotes : ℕ) (left : List ℕ) (first line : ℕ) (text : List ℕ) (links done : Links) (before after : Context) → slice_get left 0 ≡ Some first → line ≡ line_of (node_at first links) → text ≡ too_many order footnotes
    → Makes (fail_for left line text links) before after done → Makes (left_over order footnotes left links) before after done
over order footnotes [] first line text links done before after is at says makes known h = absurd (cc)
over order footnotes (one ∷ more) first line text links done before after is at says makes known h =
    let same : first ≡ one = cc in
    let here : line ≡ line_of (node_at one links) = at ∙ ap (λ (p : ℕ). line_of (node_at p links)) same in rw (here, says) at (makes known h)
