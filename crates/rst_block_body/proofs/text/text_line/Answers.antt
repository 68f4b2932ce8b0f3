use Rattle.std.proofs.Common.{refl}
use Rattle.rst_block_body.proofs.ReadLemmas.{text_read}
use Rattle.rst_block_body.proofs.text.text_line.Goals as goal

pub returns-in-Definition : goal.returns-in-Definition
returns-in-Definition c = text_read c.definition.ensures c.requires.inside refl c.text_form_at.ensures.looked

pub returns-in_ok-title_or_paragraph-in_default : goal.returns-in_ok-title_or_paragraph-in_default
returns-in_ok-title_or_paragraph-in_default c = text_read c.in_ok-title_or_paragraph-in_default.ensures c.requires.inside refl c.text_form_at.ensures.looked
