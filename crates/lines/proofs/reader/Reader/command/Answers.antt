use Rattle.lines.proofs.Spellings.{no_command_line, line_meant}
use Rattle.lines.proofs.reader.Reader.command.Goals as goal

pub returns-in_err-fields-clause-reads : goal.returns-in_err-fields-clause-reads
returns-in_err-fields-clause-reads c = rw c.from_residual.ensures (no_command_line c.args.made c.args.self.now.text.now c.args.self.now.at c.in_err-fields.ensures.reads)

pub returns-clause-reads : goal.returns-clause-reads
returns-clause-reads c =
    let line = c.in_ok-fields.fields in
    line_meant c.args.made c.args.self.now.text.now c.args.self.now.at line.letter line.numbers.items c.fields.new.self.at c.in_ok-fields.ensures.reads c.command_of.result (rw c.as_slice.ensures.value at c.command_of.ensures)
