use Rattle.std.proofs.Common.{◌≡◌, true, rules, tests, map, ◌∙◌}
use Rattle.chain.specs.Pages.{place_of, unfinished}
use Rattle.chain.proofs.Lowest.{least_of_run, lowest_kept}
use Rattle.chain.proofs.book.Book.oldest_writer.Goals as goal

pub returns-clause-lowest : goal.returns-clause-lowest
returns-clause-lowest c =
    let w = c.min_by_key.ensures.runs in
    let f = c.filter.ensures.runs w.0 w.0.seen w.1 in
    let whole : f.0.whole ≡ true = f.2.0 ∙ w.2 in
    let all : map (λ b. b.now) f.0.items ≡ c.args.self.now.pages.items = search (rules, (c.iter.ensures.runs f.0 f.0.seen).4 whole) in
    lowest_kept (λ b. b.now) f.0.items w.0.items c.args.self.now.pages.items c.min_by_key.result all
    (f.2.4 (λ b. unfinished b.now) (λ x r h k. search (rules, tests)))
    (least_of_run w.0 _ _ _ (λ b. place_of b.now) c.min_by_key.result (λ a r h k. search rules) (λ x j h k. search (rules, tests)) w.3)
