use Rattle.std.proofs.Common.{rules}
use Rattle.chain.proofs.Tasks.{oldest_found}
use Rattle.chain.proofs.book.Book.oldest.Goals as goal

pub returns : goal.returns
returns c = oldest_found (λ page. page.now) _ c.args.self.now.pages.items c.oldest_writer.result c.map.result (λ b t h. search rules) c.map.ensures.cases c.oldest_writer.ensures.among c.oldest_writer.ensures.unfinished c.oldest_writer.ensures.lowest
