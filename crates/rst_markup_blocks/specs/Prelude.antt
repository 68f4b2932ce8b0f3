-- The names of lines and looks that contracts of blocks cite most, passed on from one place. Declares nothing.
pub use Rattle.rst_text.specs.Block.{Block, cut, first_number, first_parts, first_text, indentation, is_blank}
pub use Rattle.rst_text.specs.Extent.{extent}
pub use Rattle.rst_text.specs.Lines.{are_lines, is_line_text}
pub use Rattle.rst_text.specs.Looked.{Looked, capped}
pub use Rattle.rst_text.specs.Reach.{reach, through_text}
pub use Rattle.rst_text.specs.ViewBlock.{block_of, source_of}
