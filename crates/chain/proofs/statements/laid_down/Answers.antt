use Rattle.std.proofs.Common.{◌≡◌, ◌⊎◌, length, get_or, rules, tests, refl}
use Rattle.std.proofs.lemmas.Iterator.{YieldsList-from_range, YieldsList-from_slice, YieldsList-from_zip, cases_from_all}
use Rattle.std.specs.List.{AllWithin, range_with_len, zip}
use Rattle.chain.specs.Pages.{Writing}
use Rattle.chain.proofs.Addresses.{at_each_address}
use Rattle.chain.proofs.statements.laid_down.Goals as goal

pub returns : goal.returns
returns c holds a below =
    let all = cases_from_all {v = λ p. (p.0, (p.1.0.now, p.1.1.now))} c.all.new.self _ c.all.result (λ t. (t.1.0 ≡ t.1.1) ⊎ Writing c.args.book.now.pages.items t.0) (λ t. Unit {0}) c.all.ensures.ran
    (YieldsList-from_zip (YieldsList-from_range 0 12 12 (cc) refl) (YieldsList-from_zip (YieldsList-from_slice {s = c.zip-2.result.b.a} c.args.cells.now (cc)) (YieldsList-from_slice {s = c.zip-2.result.b.b} c.cells_after-given.result (cc))))
    (λ x q k. search (rules, tests)) (λ x q k. tt) in
    let met : AllWithin (λ t. (t.1.0 ≡ t.1.1) ⊎ Writing c.args.book.now.pages.items t.0) (zip (range_with_len 0 12) (zip c.args.cells.now c.cells_after-given.result)) 0 (length (zip (range_with_len 0 12) (zip c.args.cells.now c.cells_after-given.result))) = search (rules, all) in
    let cell : (get_or c.args.cells.now a 0 ≡ get_or c.cells_after-given.result a 0) ⊎ Writing c.args.book.now.pages.items a =
    at_each_address (λ address cell given. (cell ≡ given) ⊎ Writing c.args.book.now.pages.items address) c.args.cells.now c.cells_after-given.result 12 a (search rules) (search rules) below met in
    search (rules, cell)
