use Rattle.kw_map.proofs.kiwi.Kiwi.meet_all.Goals as goal

pub meet_all-requires : goal.meet_all-requires
meet_all-requires c = rw c.self.view_is c.requires

pub returns : goal.returns
returns c = rw (← c.self.view_is) c.meet_all.ensures
