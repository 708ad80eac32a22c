use Rattle.std.proofs.Common.{ℕ, ◌+◌, ◌-◌, ◌≤◌, length, sym, subst, ◌∙◌, arith}
use Rattle.rules.specs.Logs.{Searched}
use Rattle.rules.proofs.Rooms.{log_room}
use Rattle.rules.proofs.Searches.{searched_part}
use Rattle.engine.proofs.handed.Handed.lookup.Goals as goal

pub returns : goal.returns
returns g c =
    let engine = c.args.self.now.engine.now in
    let xs = c.args.self.now.addresses.now in
    let cs = c.args.self.now.cells.now in
    let base = c.log_base-base.result in
    let logged = c.args.logged in
    let fits = c.requires.fits in
    let enough = log_room c.args.task engine.settings.tasks engine.settings.pairs logged c.requires.known c.requires.short in
    let room : base + logged ≤ length xs = omega (arith, enough, fits.addresses, c.log_base-base.ensures) in
    let found = searched_part xs base (base + logged - base) logged (omega arith) room cs (fits.cells ∙ sym fits.addresses) c.args.address c.find.result c.find.ensures in
    subst (λ (b : ℕ). Searched xs cs b logged c.args.address c.find.result) c.log_base-base.ensures found
