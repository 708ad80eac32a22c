use Rattle.std.proofs.Common.{rules, tests, sym, ◌∙◌}
use Rattle.std.proofs.lemmas.Iterator.{YieldsList-from_slice}
use Rattle.std.proofs.lemmas.Iterator.Search.{any_from_yields_List}
use Rattle.std.proofs.lemmas.List.Folds.{Any-from_list_any}
use Rattle.chain.specs.Pages.{busy}
use Rattle.chain.proofs.book.Book.is_being_written.Goals as goal

pub returns : goal.returns
returns c found =
    Any-from_list_any (λ p. busy p c.args.address) c.args.self.now.pages.items
    (sym (any_from_yields_List (λ p. busy p c.args.address) _ _ _ c.any.ensures.ran (YieldsList-from_slice c.args.self.now.pages.items cc) (λ x b q k. search (rules, tests))) ∙ found)
