use Rattle.std.proofs.Common.{◌<◌, ℕ, suc, length, arith}
use Rattle.std.proofs.lemmas.List.{nil_from_length}
use Rattle.sg_batch.specs.Batches.{members}
use Rattle.sg_batch.proofs.Members.{tail_of}
use Rattle.sg_batch.proofs.Landed.{apart_later, can_land, fits_later, ends_first, along_first, ends_none, along_none, nobody}
use Rattle.sg_batch.proofs.landing.+landing.Goals as goal

pub returns-in_default-clause-ends : goal.returns-in_default-clause-ends
returns-in_default-clause-ends t c = λ shapes at refused state stand ready.
    ends_none shapes c.args.stores.now.list state at (members c.args.kernels.now c.args.group.now) c.args.made.items refused (nil_from_length c.args.made.items (omega (arith, c.in_default.ensures.cases.0))) c.well_formed-2.ensures stand ready

pub returns-in_default-clause-flat : goal.returns-in_default-clause-flat
returns-in_default-clause-flat t c = λ shapes at refused state stand ready.
    along_none shapes c.args.stores.now.list state at (members c.args.kernels.now c.args.group.now) c.args.made.items refused (nil_from_length c.args.made.items (omega (arith, c.in_default.ensures.cases.0))) c.well_formed-2.ensures stand ready

pub returns-in_default-split_first-clause-ends : goal.returns-in_default-split_first-clause-ends
returns-in_default-split_first-clause-ends t c = λ shapes at refused state stand ready.
    absurd (nobody c.args.kernels.now c.args.stores.now.list c.args.group.now c.args.made.items c.pop.new.self.items c.in-Some.first c.in_default-split_first.ensures.cases c.in-Some.ensures.items c.requires.fits)

pub returns-in_default-split_first-clause-flat : goal.returns-in_default-split_first-clause-flat
returns-in_default-split_first-clause-flat t c = λ shapes at refused state stand ready.
    absurd (nobody c.args.kernels.now c.args.stores.now.list c.args.group.now c.args.made.items c.pop.new.self.items c.in-Some.first c.in_default-split_first.ensures.cases c.in-Some.ensures.items c.requires.fits)

pub land-requires : goal.land-requires
land-requires t c =
    can_land c.args.kernels.now c.args.group.now _ _ c.in-Some-split_first.ensures.cases.0 c.requires.there c.args.stores.now.list c.args.made.items c.pop.new.self.items c.in-Some.first c.in-Some.ensures.items c.requires.apart c.requires.fits

pub land_all-requires : goal.land_all-requires
land_all-requires t c = (
  omega (arith, c.in-Some-split_first.ensures.cases.1, c.decreases),
  (
    tail_of (λ (n : ℕ). n < length c.args.kernels.now) c.args.group.now _ _ c.in-Some-split_first.ensures.cases.0 c.requires.there,
    (
      apart_later c.args.kernels.now c.args.group.now _ _ c.in-Some-split_first.ensures.cases.0 c.requires.there c.requires.apart,
      fits_later c.args.kernels.now c.args.group.now _ _ c.in-Some-split_first.ensures.cases.0 c.requires.there c.args.stores.now.list c.args.made.items c.pop.new.self.items c.in-Some.first c.in-Some.ensures.items c.requires.apart c.requires.fits
          c.land.new.stores.list c.land.ensures.landed c.land.ensures.kept,
    ),
  ),
)

pub returns-clause-ends : goal.returns-clause-ends
returns-clause-ends t c = λ shapes at refused state stand ready.
    ends_first c.args.kernels.now c.args.group.now _ _ c.in-Some-split_first.ensures.cases.0 c.requires.there c.args.stores.now.list c.args.made.items c.pop.new.self.items c.in-Some.first c.in-Some.ensures.items c.requires.apart c.requires.fits
    c.land.new.stores.list c.land.ensures.landed c.land.ensures.kept shapes at refused state c.well_formed-2.ensures stand ready c.land_all.new.stores.list
    (λ next stands later. c.land_all.ensures.ends shapes (suc at) refused next stands later)

pub returns-clause-flat : goal.returns-clause-flat
returns-clause-flat t c = λ shapes at refused state stand ready.
    along_first c.args.kernels.now c.args.group.now _ _ c.in-Some-split_first.ensures.cases.0 c.requires.there c.args.stores.now.list c.args.made.items c.pop.new.self.items c.in-Some.first c.in-Some.ensures.items c.requires.apart c.requires.fits
    c.land.new.stores.list c.land.ensures.landed c.land.ensures.kept shapes at refused state c.well_formed-2.ensures stand ready
    (λ next stands later. c.land_all.ensures.flat shapes (suc at) refused next stands later)
