-- The loaded tag is the one at its address.
use Rattle.std.proofs.Common.{sym, ◌∙◌, arith}
use Rattle.cells.proofs.TagBytes.{get_or-tags}
use Rattle.cells.proofs.tags.TagsMemory.read.Goals as goal

pub returns : goal.returns
returns c =
    (omega arith, c.load.ensures ∙ sym (get_or-tags c.args.self.now.bytes.now c.args.address _ (omega arith)))
