use Rattle.rst_tree_laws.proofs.LineCharacters.{lines_kept, spelled_lines, text_suits}
use Rattle.rst_tree_laws.proofs.laws.lines_hold_text_characters.Goals as goal

pub returns : goal.returns
returns c = record { suits = text_suits; lines = lines_kept; texts = spelled_lines }
