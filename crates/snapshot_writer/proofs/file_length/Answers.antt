-- `file_length` meets its contract: as many blocks as there are full ones, and one. Assumes nothing.
use mathlib.Core.Path.{sym}
use Rattle.snapshot_writer.proofs.LawsBlocks.{length_file}
use Rattle.snapshot_writer.proofs.file_length.Goals as goal

pub returns : goal.returns
returns c = sym (length_file _ c.full_blocks.result c.full_blocks.ensures)
