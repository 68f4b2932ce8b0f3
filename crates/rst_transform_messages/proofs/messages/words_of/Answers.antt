use Rattle.std.proofs.Common.{rules}
use Rattle.rst_transform_messages.proofs.Listing.{gives_lone}
use Rattle.rst_transform_messages.proofs.messages.words_of.Goals as goal

pub returns-in-Some-Text : goal.returns-in-Some-Text
returns-in-Some-Text c =
    gives_lone _ _ _ c.in-Element.children _ c.in-Some-Text.text c.copy.result c.in-Element.is (search rules) (search rules) c.copy.ensures
