use Rattle.std.proofs.Common.{None}
use Rattle.rst_transform_substitutions.proofs.Defining.{listed_read}
use Rattle.rst_transform_substitutions.proofs.listing.Listed.of.Goals as goal

pub returns : goal.returns
returns c =
    rw (c.new.ensures.items) at (listed_read None c.args.nodes.now (record { definitions = c.new.result; names = c.new-2.result }) c.read_elements.new.reader c.in_ok-read_elements.ensures)
