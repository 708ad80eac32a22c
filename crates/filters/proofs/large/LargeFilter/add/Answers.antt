-- The small filter of the address gets its bit.
use Rattle.std.proofs.Common.{◌∙◌, ap, sym, slice_set, arith}
use Rattle.std.proofs.lemmas.List.{map-set, get_or-map}
use Rattle.filters.specs.declared.small.Small.{Small}
use Rattle.filters.specs.Bits.{with_bit}
use Rattle.filters.specs.Words.{bits_of, word_of, bit_of}
use Rattle.filters.proofs.large.LargeFilter.add.Goals as goal

pub returns : goal.returns
returns c =
    let words = c.args.self.words in
    let a = c.args.address in
    let kept = get_or-map (λ (s : Small). s.bits) words (word_of a) c.index-words-word.result 0 (omega (arith, c.args.self.full)) in
    map-set (λ (s : Small). s.bits) words (word_of a) c.add.result
    ∙ ap (slice_set (bits_of words) (word_of a)) (c.add.ensures ∙ ap (λ x. with_bit x (bit_of a)) (sym kept))
