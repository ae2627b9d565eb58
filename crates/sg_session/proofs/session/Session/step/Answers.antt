use Rattle.sg_outside.specs.Files.{Missing}
use Rattle.std.proofs.Common.{◌≡◌, w64, to_z, of_z, arith, sym, subst}
use Rattle.std.specs.List.{AllZip}
use Rattle.std.proofs.lemmas.Int.{to_z-of_z}
use Rattle.sg_store.specs.Links.{KeepsLinks}
use Rattle.sg_session.specs.Performed.{SessionParts}
use Rattle.sg_session.proofs.LinksKept.{keep_grown, keep_shrunk, keep_itself}
use Rattle.sg_session.proofs.Performing.{still_stand}
use Rattle.sg_session.proofs.Viewing.{image_between}
use Rattle.sg_session.proofs.session.Session.step.Goals as goal

pub returns-in-Load-clause-told : goal.returns-in-Load-clause-told
returns-in-Load-clause-told g c = rw (c.in-Load.is, sym c.self.view_is) (λ held told state stand. c.load-answer.ensures.told held told state stand)

pub returns-in-Load-clause-performed : goal.returns-in-Load-clause-performed
returns-in-Load-clause-performed g c = rw (c.in-Load.is, sym c.self.view_is) (λ state stand. c.load-answer.ensures.performed state stand)

pub returns-in-Run-clause-told : goal.returns-in-Run-clause-told
returns-in-Run-clause-told g c = rw (c.in-Run.is, sym c.self.view_is) (λ held told state stand. c.run-answer.ensures.performed state stand)

pub returns-in-Run-clause-performed : goal.returns-in-Run-clause-performed
returns-in-Run-clause-performed g c = rw (c.in-Run.is, sym c.self.view_is) (λ state stand. (Missing, c.run-answer.ensures.performed state stand))

pub returns-in-Dump-clause-told : goal.returns-in-Dump-clause-told
returns-in-Dump-clause-told g c = rw (c.in-Dump.is, sym c.self.view_is) (λ held told state stand. c.write_out.ensures state stand)

pub returns-in-Dump-clause-performed : goal.returns-in-Dump-clause-performed
returns-in-Dump-clause-performed g c = rw (c.in-Dump.is, sym c.self.view_is) (λ state stand. (Missing, c.write_out.ensures state stand))

pub returns-in-Stats-clause-told : goal.returns-in-Stats-clause-told
returns-in-Stats-clause-told g c = rw (c.in-Stats.is, sym c.self.view_is) (λ held told state stand. c.count.ensures state stand)

pub returns-in-Stats-clause-performed : goal.returns-in-Stats-clause-performed
returns-in-Stats-clause-performed g c = rw (c.in-Stats.is, sym c.self.view_is) (λ state stand. (Missing, c.count.ensures state stand))

pub returns-in-Prune-clause-told : goal.returns-in-Prune-clause-told
returns-in-Prune-clause-told g c = rw (c.in-Prune.is, sym c.self.view_is) (λ held told state stand. c.prune.ensures.performed state stand)

pub returns-in-Prune-clause-performed : goal.returns-in-Prune-clause-performed
returns-in-Prune-clause-performed g c = rw (c.in-Prune.is, sym c.self.view_is) (λ state stand. (Missing, c.prune.ensures.performed state stand))

pub returns-in-Clear-clause-told : goal.returns-in-Clear-clause-told
returns-in-Clear-clause-told g c = rw (c.in-Clear.is, sym c.self.view_is) (λ held told state stand. c.clear.ensures.performed state stand)

pub returns-in-Clear-clause-performed : goal.returns-in-Clear-clause-performed
returns-in-Clear-clause-performed g c = rw (c.in-Clear.is, sym c.self.view_is) (λ state stand. (Missing, c.clear.ensures.performed state stand))

pub invariant_of-self-in-Run : goal.invariant_of-self-in-Run
invariant_of-self-in-Run g c = still_stand c.self.inside.compiled.layouts c.self.inside.stores c.run-answer.new.stores c.run-answer.result c.self.invariant c.run-answer.ensures.stand c.run-answer.ensures.stays

pub returns-in-Image-clause-told : goal.returns-in-Image-clause-told
returns-in-Image-clause-told g c =
    let drawn = rw c.in-Image.is at c.requires.there in
    let low : to_z w64 (of_z w64 c.in-Image.lo) ≡ c.in-Image.lo = grind (arith, to_z-of_z, drawn.lo_low, drawn.rising, drawn.hi_high) in
    let high : to_z w64 (of_z w64 c.in-Image.hi) ≡ c.in-Image.hi = grind (arith, to_z-of_z, drawn.lo_low, drawn.rising, drawn.hi_high) in
    rw (c.in-Image.is, sym c.self.view_is) (λ held told state stand. image_between _ _ c.draw.result state c.in-Image.field c.in-Image.lo c.in-Image.hi _ _ low high (c.draw.ensures state stand))

pub returns-in-Image-clause-performed : goal.returns-in-Image-clause-performed
returns-in-Image-clause-performed g c =
    let drawn = rw c.in-Image.is at c.requires.there in
    let low : to_z w64 (of_z w64 c.in-Image.lo) ≡ c.in-Image.lo = grind (arith, to_z-of_z, drawn.lo_low, drawn.rising, drawn.hi_high) in
    let high : to_z w64 (of_z w64 c.in-Image.hi) ≡ c.in-Image.hi = grind (arith, to_z-of_z, drawn.lo_low, drawn.rising, drawn.hi_high) in
    rw (c.in-Image.is, sym c.self.view_is) (λ state stand. (Missing, image_between _ _ c.draw.result state c.in-Image.field c.in-Image.lo c.in-Image.hi _ _ low high (c.draw.ensures state stand)))

pub returns-in-Load-clause-links : goal.returns-in-Load-clause-links
returns-in-Load-clause-links g c =
    let now = c.load-answer.new.stores.list in
    subst (λ (s : SessionParts). AllZip KeepsLinks s.stores now) c.self.view_is
    (keep_grown c.links_stay.ensures.grown c.self.inside.stores.list now c.well_formed-in-Load.ensures c.load-answer.ensures.links)

pub returns-in-Run-clause-links : goal.returns-in-Run-clause-links
returns-in-Run-clause-links g c =
    let now = c.run-answer.new.stores.list in
    subst (λ (s : SessionParts). AllZip KeepsLinks s.stores now) c.self.view_is
    (keep_grown c.links_stay.ensures.grown c.self.inside.stores.list now c.well_formed-in-Run.ensures c.run-answer.ensures.links)

pub returns-in-Dump-clause-links : goal.returns-in-Dump-clause-links
returns-in-Dump-clause-links g c =
    subst (λ (s : SessionParts). AllZip KeepsLinks s.stores s.stores) c.self.view_is
    (keep_itself c.links_stay.ensures.shrunk c.self.inside.stores.list c.well_formed-2.ensures)

pub returns-in-Image-clause-links : goal.returns-in-Image-clause-links
returns-in-Image-clause-links g c =
    subst (λ (s : SessionParts). AllZip KeepsLinks s.stores s.stores) c.self.view_is
    (keep_itself c.links_stay.ensures.shrunk c.self.inside.stores.list c.well_formed-2.ensures)

pub returns-in-Stats-clause-links : goal.returns-in-Stats-clause-links
returns-in-Stats-clause-links g c =
    subst (λ (s : SessionParts). AllZip KeepsLinks s.stores s.stores) c.self.view_is
    (keep_itself c.links_stay.ensures.shrunk c.self.inside.stores.list c.well_formed-2.ensures)

pub returns-in-Prune-clause-links : goal.returns-in-Prune-clause-links
returns-in-Prune-clause-links g c =
    let now = c.prune.new.stores.list in
    subst (λ (s : SessionParts). AllZip KeepsLinks s.stores now) c.self.view_is
    (keep_shrunk c.links_stay.ensures.shrunk c.self.inside.stores.list now c.well_formed-2.ensures c.prune.ensures.links)

pub returns-in-Clear-clause-links : goal.returns-in-Clear-clause-links
returns-in-Clear-clause-links g c =
    let now = c.clear.new.stores.list in
    subst (λ (s : SessionParts). AllZip KeepsLinks s.stores now) c.self.view_is
    (keep_shrunk c.links_stay.ensures.shrunk c.self.inside.stores.list now c.well_formed-2.ensures c.clear.ensures.links)
