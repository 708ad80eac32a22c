use Rattle.std.proofs.Common.{◌≡◌}
use Rattle.chain.specs.Pages.{laid}
use Rattle.chain.proofs.book.Page.lay_over.Given as goal

abbrev pub invariant-loop-address : goal.invariant-loop-address
invariant-loop-address l = laid l.address-iterator l.cells ≡ laid l.self.log.entries l.initial.cells
