use Rattle.rst_transform.proofs.Left.{reported_messages}
use Rattle.rst_transform.proofs.laws.reported_messages.Goals as goal

pub returns : goal.returns
returns c = reported_messages
