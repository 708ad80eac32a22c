-- The chain goes through the pairs of small filters, which are the pairs of their 32 words.
use Rattle.std.proofs.Common.{rules, tests, ◌∙◌}
use Rattle.std.proofs.lemmas.Iterator.{YieldsList-from_slice, YieldsList-from_zip}
use Rattle.std.proofs.lemmas.Iterator.Search.{any_from_yields_List}
use Rattle.filters.specs.declared.small.Small.{Small}
use Rattle.filters.specs.Bits.{share}
use Rattle.filters.specs.WordLaws.{share_full}
use Rattle.filters.proofs.large.LargeFilter.meets.Goals as goal

pub returns : goal.returns
returns c =
    any_from_yields_List (λ (p : Small × Small). share p.0.bits p.1.bits) c.any.new.self _ c.any.result c.any.ensures.ran
    (YieldsList-from_zip
    (YieldsList-from_slice c.args.self.now.words cc)
    (YieldsList-from_slice c.args.other.now.words cc))
    (λ x b q k. search (rules, tests))
    ∙ share_full c.args.self.now.words c.args.other.now.words c.args.self.now.full c.args.other.now.full
