use Rattle.std.proofs.Common.{List, ap, subst}
use Rattle.sg_store.specs.StoreWords.{StoreWords}
use Rattle.sg_journal.specs.Placing.{ArePlaced}
use Rattle.sg_session.specs.Performed.{SessionParts}
use Rattle.sparsegrid.proofs.journaling.send_next.Goals as goal

pub returns-in-Ok-send_changes-clause-sends : goal.returns-in-Ok-send_changes-clause-sends
returns-in-Ok-send_changes-clause-sends g c =
    (subst (λ (stores : List StoreWords). ArePlaced stores c.in-Ok.next.layouts) (ap (λ (s : SessionParts). s.stores) c.session.view_is) c.in-Ok.ensures, c.in-Ok-send_changes.ensures.sends.0, c.in-Ok-send_changes.ensures.sends.1)
