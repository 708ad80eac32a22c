-- What `with` gives is what adding to listed entries gives.
use Rattle.std.proofs.Common.{◌≡◌, ℕ, ◌+◌, ◌<◌, ◌↔◌, slice_set, Option, Some, None, IsSome, IfSome, MatchOption, refl, sym, subst, arith}
use Rattle.std.proofs.lemmas.Bool.{false≢true}
use Rattle.filters.specs.declared.entries.Entries.{Entries}
use Rattle.filters.specs.declared.short_list.ShortList.{ShortList}
use Rattle.filters.specs.ShortLists.{Listing, Adding}
use Rattle.filters.proofs.short_list.ShortListFilter.add.Goals as goal

-- An address takes the next entry if one is free; else the list covers every address.
listing : (e : Entries) (a : ℕ) (o : Option Entries) (g : ShortList) → IsSome o ↔ (e.count < 16)
    → IfSome o (λ f. f.addresses ≡ slice_set e.addresses e.count a) → IfSome o (λ f. f.count ≡ e.count + 1)
    → MatchOption o (g ≡ ShortList.Every) (λ f. g ≡ ShortList.Listed f) → Listing e a g
listing e a None g free addresses count gives = record { takes = λ below. absurd (false≢true (free.1 below)); overflows = λ _. gives }
listing e a (Some f) g free addresses count gives =
    record { takes = λ _. (f, gives, addresses, count); overflows = λ full. absurd (omega (arith, full, free.0 refl)) }

pub returns-in-Listed : goal.returns-in-Listed
returns-in-Listed c =
    subst (λ f. Adding f c.args.address c.map_or.result) (sym c.in-Listed.is)
    (listing c.in-Listed.entries c.args.address c.with.result c.map_or.result c.with.ensures.free c.with.ensures.addresses
    c.with.ensures.count c.map_or.ensures)
