use Rattle.sg_journal.proofs.PlacedOnce.{are_placed_once}
use Rattle.sg_journal.proofs.StoresPlaced.{stores_are_sound, stores_keep_places}
use Rattle.sg_journal.proofs.laws.stores_are_placed.Goals as goal

pub returns-clause-once : goal.returns-clause-once
returns-clause-once c = are_placed_once

pub returns-clause-sound : goal.returns-clause-sound
returns-clause-sound c = stores_are_sound c.links_are_sound.ensures

pub returns-clause-keep : goal.returns-clause-keep
returns-clause-keep c = stores_keep_places
