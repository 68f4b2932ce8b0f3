-- The blocks that wait, each at a place of an array.
use Rattle.std.specs.Prelude.{List, [], ◌∷◌, Option, Some, None, Box, box_value}
use Rattle.std.specs.declared.alloc.Global.{Global}
use Rattle.rst_block_state.specs.declared.frame.Frame.{Frame}

-- the blocks at some places
abbrev pub frames_at : List (Option (Box Frame Global)) → List Frame
frames_at [] = []
frames_at (None ∷ places) = frames_at places
frames_at (Some b ∷ places) = box_value b ∷ frames_at places
