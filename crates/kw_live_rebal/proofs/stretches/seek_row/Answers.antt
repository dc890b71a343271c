use Rattle.std.proofs.Common.{◌≡◌, ◌<◌, ◌≤◌, ◌∙◌, ℕ, arith, ap, inl, inr, refl, subst, sym}
use Rattle.std.proofs.lemmas.Bool.{false≢true}
use Rattle.kw_world.specs.declared.event.Choice.TheVariants.{Go}
use Rattle.kw_world.specs.declared.local.Local.{Local}
use Rattle.kw_world.specs.Sizes.{product}
use Rattle.kw_world.specs.Step.{next_of}
use Rattle.kw_follow.specs.declared.seeking.Search.{Search}
use Rattle.kw_follow.specs.Searches.{behind, seeking_at}
use Rattle.kw_follow.proofs.OneEvent.{follows_ranges, follows_room}
use Rattle.kw_follow.proofs.SeekEvents.{begins_search, passed}
use Rattle.kw_follow.proofs.Advancing.{advances_none}
use Rattle.kw_follow.proofs.Reaching.{advances_trans}
use Rattle.kw_live_rebal.proofs.Building.{row_advances, row_goes_on, row_tidies}
use Rattle.kw_live_rebal.proofs.stretches.seek_row.Goals as goal

pub loop-search-init : goal.loop-search-init
loop-search-init c = record { on = advances_none (begins_search _ _ c.of-search.ensures c.requires.activity c.requires.follows); same = refl }

pub load_state-found-requires : goal.load_state-found-requires
load_state-found-requires c = (c.loop-search.local, c.loop-search.invariant.on.follows)

pub loop-search-preserved : goal.loop-search-preserved
loop-search-preserved c =
    let few : c.loop-search.search.asked < c.rows-rows.result = omega arith in
    let next : c.behind-search.result ≡ behind c.args.shared.now.opening.rows c.loop-search.search = subst (λ (n : ℕ). c.behind-search.result ≡ behind n c.loop-search.search) c.rows-rows.ensures c.behind-search.ensures in
    record {
      on = advances_trans c.loop-search.invariant.on (passed c.loop-search.local c.loop-search.search c.behind-search.result next (subst (λ (n : ℕ). c.loop-search.search.asked < n) c.rows-rows.ensures few) (sym c.is_in_use.ensures ∙ c.if-is_in_use.true) c.loop-search.invariant.on.follows c.load_state-found.ensures);
      same = c.loop-search.invariant.same;
    }

pub loop-search-smaller : goal.loop-search-smaller
loop-search-smaller c = omega (arith, ap (λ (x : Search). x.asked) c.behind-search.ensures)

pub stop-requires-clause-ranges : goal.stop-requires-clause-ranges
stop-requires-clause-ranges c = follows_ranges _ _ _ c.loop-search.invariant.on.follows

pub stop-requires-clause-room : goal.stop-requires-clause-room
stop-requires-clause-room c = follows_room _ _ _ c.loop-search.invariant.on.follows

pub returns-else-is_in_use-clause-on : goal.returns-else-is_in_use-clause-on
returns-else-is_in_use-clause-on c = row_advances c.loop-search.search c.args.local.now c.loop-search.local c.stop.new.local c.stop.result c.rows-rows.result c.requires.activity c.loop-search.invariant.same c.rows-rows.ensures c.loop-search.invariant.on c.load_state-found.ensures c.stop.ensures

pub returns-else-is_in_use-clause-tidies : goal.returns-else-is_in_use-clause-tidies
returns-else-is_in_use-clause-tidies c = row_tidies c.loop-search.search c.args.local.now c.loop-search.local c.stop.new.local c.stop.result c.rows-rows.result c.requires.activity c.loop-search.invariant.same c.rows-rows.ensures c.loop-search.invariant.on c.load_state-found.ensures c.stop.ensures

pub returns-else-is_in_use-clause-goes_on : goal.returns-else-is_in_use-clause-goes_on
returns-else-is_in_use-clause-goes_on c = row_goes_on c.loop-search.search c.args.local.now c.loop-search.local c.stop.new.local c.stop.result c.rows-rows.result c.requires.activity c.loop-search.invariant.same c.rows-rows.ensures c.loop-search.invariant.on c.load_state-found.ensures c.stop.ensures

pub returns-else-is_in_use-clause-left : goal.returns-else-is_in_use-clause-left
returns-else-is_in_use-clause-left c = record {
  search = c.loop-search.search;
  told = c.load_state-found.result;
  done = c.stop.result;
  left =
      c.stop.ensures
      ∙ (ap (λ (n : Local). next_of product c.rows-rows.result Go (seeking_at c.loop-search.search n) c.load_state-found.result) c.loop-search.invariant.same
      ∙ ap (λ n. next_of product n Go (seeking_at c.loop-search.search c.args.local.now) c.load_state-found.result) c.rows-rows.ensures);
  over = λ used. elim c.else-is_in_use.either [
    | inl last ↦ subst (λ n. n ≤ c.loop-search.search.asked) c.rows-rows.ensures last.1
    | inr free ↦ absurd (false≢true (sym free ∙ (c.is_in_use.ensures ∙ used)))
  ];
}
