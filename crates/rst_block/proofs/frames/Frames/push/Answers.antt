use Rattle.rst_block.proofs.Places.{put}
use Rattle.rst_block.proofs.frames.Frames.push.Goals as goal

pub invariant_of-self-2 : goal.invariant_of-self-2
invariant_of-self-2 c = (put c.self.inside.places.items _ c.in_ok-new.field-0 c.push.ensures.items c.self.invariant).1

pub returns : goal.returns
returns c = rw (← c.self.view_is, ← c.in_ok-new.ensures.ok) (put c.self.inside.places.items _ c.in_ok-new.field-0 c.push.ensures.items c.self.invariant).0
