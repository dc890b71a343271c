-- The range of the index gives the places of last entries; each shows a value that is pushed, or
-- nothing.
use Rattle.std.proofs.Common.{◌≡◌, ◌<◌, ◌++◌, ◌∷◌, sym, ap, ◌∙◌, subst, rules, arith, length}
use Rattle.kw_cells.specs.Pairs.{Pairs, ShowsRange}
use Rattle.kw_cells.specs.Plain.{Entries, shown_last}
use Rattle.kw_cells.proofs.Tree.{within, entries_are}
use Rattle.kw_cells.proofs.Scans.{shown_by, ArePlaces, places_within, range_shows, shown_whole}
use Rattle.kw_cells.proofs.plain.Plain.scan.Goals as goal

range_is : (c : goal.After-into_iter-key-iterator) → c.into_iter-key-iterator.result ≡ within c.args.from c.args.to c.self.inside.newest.entries
range_is c =
    let all = rw (c.new.ensures.start, c.new.ensures.end) at (c.range-key-items.ensures.between (search rules)) in
    c.into_iter-key-iterator.ensures.into_iter_gives ∙ all ∙ entries_are c.args.from c.args.to c.self.inside.newest.entries

pub loop-key-init : goal.loop-key-init
loop-key-init c =
    let places : ArePlaces c.self.inside.entries.items c.into_iter-key-iterator.result = rw (range_is c) (places_within c.self.inside.newest.entries c.self.inside.entries.items c.args.from c.args.to c.self.invariant) in
    (ap (λ (m : Pairs). m ++ shown_by c.args.self.now c.into_iter-key-iterator.result) c.new-pairs.ensures, rw c.self.view_is at places)

pub index-requires : goal.index-requires
index-requires c =
    let p : ArePlaces c.args.self.now ((c.in-Some.key.now, c.in-Some.place.now) ∷ c.next.new.self) = rw c.in-Some.ensures.steps at c.loop-key.invariant.1 in
    let low : c.in-Some.place.now < length c.args.self.now = p.0 in
    let same : length c.self.inside.entries.items ≡ length c.args.self.now = ap (λ (l : Entries). length l) c.self.view_is in
    omega arith

pub returns-clause-pairs : goal.returns-clause-pairs
returns-clause-pairs c =
    let all = rw (c.new.ensures.start, c.new.ensures.end) at (c.range-key-items.ensures.between (search rules)) in
    let range : c.into_iter-key-iterator.result ≡ within c.args.from c.args.to c.self.inside.newest.entries = c.into_iter-key-iterator.ensures.into_iter_gives ∙ all ∙ entries_are c.args.from c.args.to c.self.inside.newest.entries in
    let done : c.loop-key.pairs ≡ shown_by c.args.self.now c.into_iter-key-iterator.result = shown_whole c.args.self.now c.loop-key.pairs c.loop-key.key-iterator _ c.in-None.ensures.steps.0 c.loop-key.invariant.0 in
    let shows : ShowsRange (shown_last c.self.inside.entries.items) c.args.from c.args.to (shown_by c.self.inside.entries.items (within c.args.from c.args.to c.self.inside.newest.entries)) = range_shows c.self.inside.newest.entries c.self.inside.entries.items c.args.from c.args.to c.self.invariant in
    let seen : ShowsRange (shown_last c.args.self.now) c.args.from c.args.to (shown_by c.args.self.now (within c.args.from c.args.to c.self.inside.newest.entries)) = subst (λ (es : Entries). ShowsRange (shown_last es) c.args.from c.args.to (shown_by es (within c.args.from c.args.to c.self.inside.newest.entries))) c.self.view_is shows in
    subst (λ (m : Pairs). ShowsRange (shown_last c.args.self.now) c.args.from c.args.to m) (ap (shown_by c.args.self.now) (sym range) ∙ sym done) seen
