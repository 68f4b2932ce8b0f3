use Rattle.std.specs.Prelude.{false, None}
use Rattle.rst_inline_scan.specs.Mail.{holds_at_sign}
use Rattle.rst_settings.specs.Parts.{no_parts}
use Rattle.rst_settings.specs.declared.Parts.{Parts}
use Rattle.rst2pseudoxml_run.specs.Marks.{holds_dollar_sign, holds_handed, holds_mark, holds_role_end, holds_wider_directive, holds_wider_role}
use Rattle.rst2pseudoxml_run.proofs.Parts.{needs_mark, none_held, undirected, unhanded, unkeyed, unmailed, unmarked, unnamed}
use Rattle.rst2pseudoxml_run.proofs.laws.parts_need_their_marks.Goals as goal

pub returns : goal.returns
returns c = record {
  parts = needs_mark (λ (asked : Parts). record no_parts { unmarked = asked.unmarked }) holds_mark none_held;
  marks = needs_mark (λ (asked : Parts). record asked { marks = false }) (λ asked. holds_role_end) unmarked;
  mail = needs_mark (λ (asked : Parts). record asked { mail = false }) (λ asked. holds_at_sign) unmailed;
  roles = needs_mark (λ (asked : Parts). record asked { roles = false }) (λ asked. holds_wider_role) unnamed;
  directives = needs_mark (λ (asked : Parts). record asked { directives = false }) (λ asked. holds_wider_directive) undirected;
  keywords = needs_mark (λ (asked : Parts). record asked { keywords = false }) (λ asked. holds_dollar_sign) unkeyed;
  handed = needs_mark (λ (asked : Parts). record asked { handed = None }) holds_handed unhanded;
}
