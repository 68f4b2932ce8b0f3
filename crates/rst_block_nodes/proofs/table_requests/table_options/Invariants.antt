use Rattle.std.proofs.Common.{◌≡◌, drop}
use Rattle.rst_markup_directives.specs.Options.{choices_in}
use Rattle.rst_block_nodes.specs.TableRequests.{asked_by, asked_in, asked_of}
use Rattle.rst_block_nodes.proofs.table_requests.table_options.Given as goal

abbrev pub invariant-loop-setting : goal.invariant-loop-setting
invariant-loop-setting l = asked_by (choices_in (drop l.setting-index l.options)) (asked_in l.asked) ≡ asked_of (choices_in l.options)
