-- A store sets the tag at its address, and keeps the leftover bytes.
use Rattle.std.proofs.Common.{◌^◌, ◌<◌, refl, ap, ◌∙◌, arith}
use Rattle.cells.specs.Tags.{count, tags, leftover}
use Rattle.cells.proofs.TagBytes.{leftover-stored, tags-stored}
use Rattle.cells.proofs.tags.TagsMemory.write.Goals as goal

pub returns : goal.returns
returns c =
    let bytes = c.args.self.now.bytes.now in
    let address = c.args.address in
    let cell = c.args.cell in
    let below : address < count bytes = omega arith in
    let fits : cell.value < 2 ^ 32 = omega arith in
    record {
      writes = (omega arith, ap tags c.store.ensures ∙ tags-stored bytes address cell below fits);
      rest_kept = ap leftover c.store.ensures ∙ leftover-stored bytes address cell below fits;
      lender_kept = refl;
    }
