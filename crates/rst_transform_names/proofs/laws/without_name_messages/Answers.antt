use Rattle.rst_transform_names.proofs.NoNameMessages.{without_name_messages}
use Rattle.rst_transform_names.proofs.laws.without_name_messages.Goals as goal

pub returns : goal.returns
returns c = without_name_messages
