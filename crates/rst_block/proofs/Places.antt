-- What is put at a place and taken from it.
use Rattle.std.proofs.Common.{◌≡◌, ◌≤◌, List, [], ◌∷◌, ◌++◌, length, length-append, Option, Some, None, Box, box_value, Global, arith, refl, ap, ◌∙◌}
use Rattle.rst_block_state.specs.declared.frame.Frame.{Frame}
use Rattle.rst_block.specs.Places.{frames_at}

at_append : (ps : List (Option (Box Frame Global))) (p : Option (Box Frame Global)) → frames_at (ps ++ p ∷ []) ≡ frames_at ps ++ frames_at (p ∷ [])
at_append [] None = refl
at_append [] (Some b) = refl
at_append (None ∷ ps) p = at_append ps p
at_append (Some b ∷ ps) p = ap (λ fs. box_value b ∷ fs) (at_append ps p)

at_most : (ps : List (Option (Box Frame Global))) → length (frames_at ps) ≤ length ps
at_most [] = omega arith
at_most (None ∷ ps) = omega (arith, at_most ps)
at_most (Some b ∷ ps) = omega (arith, at_most ps)

-- a block is put after the others
pub put : (ps all : List (Option (Box Frame Global))) (b : Box Frame Global) → all ≡ ps ++ Some b ∷ [] → length (frames_at ps) ≡ length ps
    → (frames_at all ≡ frames_at ps ++ box_value b ∷ []) × (length (frames_at all) ≡ length all)
put ps all b e h =
    let a : frames_at all ≡ frames_at ps ++ box_value b ∷ [] = ap frames_at e ∙ at_append ps (Some b) in
    (a, omega (arith, ap length a, ap length e, length-append (frames_at ps) (box_value b ∷ []), length-append ps (Some b ∷ []), h))

-- the last place has one, which is taken
pub took : (ps all : List (Option (Box Frame Global))) (b : Box Frame Global) → all ≡ ps ++ Some b ∷ [] → length (frames_at all) ≡ length all
    → (frames_at all ≡ frames_at ps ++ box_value b ∷ []) × (length (frames_at ps) ≡ length ps)
took ps all b e h =
    let a : frames_at all ≡ frames_at ps ++ box_value b ∷ [] = ap frames_at e ∙ at_append ps (Some b) in
    (a, omega (arith, ap length a, ap length e, length-append (frames_at ps) (box_value b ∷ []), length-append ps (Some b ∷ []), h))

-- no place is without one
pub no_gap : {A : Type 0} (ps all : List (Option (Box Frame Global))) → all ≡ ps ++ None ∷ [] → length (frames_at all) ≡ length all → A
no_gap ps all e h = absurd (omega (arith, ap length e, length-append ps (None ∷ []), at_most ps, h, ap length (ap frames_at e ∙ at_append ps None), length-append (frames_at ps) []))
