-- The whole cells are the tags.
use Rattle.std.proofs.Common.{sym, ◌∙◌}
use Rattle.cells.proofs.TagBytes.{length-tags}
use Rattle.cells.proofs.tags.TagsMemory.size.Goals as goal

pub returns : goal.returns
returns c = record {
  cells = c.held.ensures ∙ sym (length-tags c.args.self.now.bytes.now);
  whole = c.held.ensures;
}
