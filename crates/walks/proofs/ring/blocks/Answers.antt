use Rattle.rules.proofs.Walks.{decide_meets}
use Rattle.walks.proofs.ring.blocks.Goals as goal

pub returns-then-is_writing : goal.returns-then-is_writing
returns-then-is_writing g c =
    let present = c.in-Some.ensures in
    decide_meets g.F.Filter (record { entry = c.in-Some.entry.now; present = present; writing = c.if-is_writing.ensures }) present.there c.meets.result c.meets.ensures
