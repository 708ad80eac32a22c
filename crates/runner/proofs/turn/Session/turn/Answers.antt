use Rattle.std.proofs.Common.{Some, Ok, Err, sym, refl, ap, ◌∙◌}
use Rattle.rules.specs.Calls.{read, write}
use Rattle.runner.specs.Lines.{asks}
use Rattle.runner.proofs.turn.Session.turn.Goals as goal

pub returns-in-Ok-read-clause-played : goal.returns-in-Ok-read-clause-played
returns-in-Ok-read-clause-played g c = record {
  task = c.in-Read.task;
  act = read c.in-Read.address;
  asked = ap (asks g.C.Face.made) c.in-Read.is;
  reply = Ok c.in-Ok-read.answer;
  step = c.in-Ok-read.ensures.step;
  tells = c.show.ensures;
}

pub returns-in-Err-read-clause-played : goal.returns-in-Err-read-clause-played
returns-in-Err-read-clause-played g c = record {
  task = c.in-Read.task;
  act = read c.in-Read.address;
  asked = ap (asks g.C.Face.made) c.in-Read.is;
  reply = Err c.in-Err-read.reason;
  step = c.in-Err-read.ensures.step;
  tells = c.denied.ensures;
}

pub returns-in-Ok-write-clause-played : goal.returns-in-Ok-write-clause-played
returns-in-Ok-write-clause-played g c = record {
  task = c.in-Write.task;
  act = write c.in-Write.address c.make-cell.result;
  asked = ap (asks g.C.Face.made) c.in-Write.is ∙ ap (λ (x : g.row.C.Denot). Some (c.in-Write.task, write c.in-Write.address x)) (ap (g.C.Face.made c.in-Write.value) (sym c.unwrap_or.ensures) ∙ sym c.make-cell.ensures);
  reply = Ok c.in-Ok-write.logged;
  step = c.in-Ok-write.ensures.step;
  tells = refl;
}

pub returns-in-Err-write-clause-played : goal.returns-in-Err-write-clause-played
returns-in-Err-write-clause-played g c = record {
  task = c.in-Write.task;
  act = write c.in-Write.address c.make-cell.result;
  asked = ap (asks g.C.Face.made) c.in-Write.is ∙ ap (λ (x : g.row.C.Denot). Some (c.in-Write.task, write c.in-Write.address x)) (ap (g.C.Face.made c.in-Write.value) (sym c.unwrap_or.ensures) ∙ sym c.make-cell.ensures);
  reply = Err c.in-Err-write.reason;
  step = c.in-Err-write.ensures.step;
  tells = refl;
}
