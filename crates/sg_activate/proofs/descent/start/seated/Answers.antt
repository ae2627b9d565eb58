use Rattle.std.proofs.Common.{ap, sym, ◌∙◌, ◌<◌, subst, length, arith, ◌+◌, []}
use Rattle.sg_words.specs.Counts.{pairs}
use Rattle.sg_activate.specs.DescentRace.{told_at}
use Rattle.sg_activate.proofs.DescentPlanned.{opened, given, few-parts}
use Rattle.sg_activate.proofs.DescentPassed.{passed, newcomer-inside}
use Rattle.sg_activate.proofs.descent.start.seated.Goals as goal

pub words_of-requires : goal.words_of-requires
words_of-requires c = record { few = few-parts c.args.store.now c.requires.well_formed c.args.plan c.requires.plan (ap (λ b. b + length c.args.plan.levels) (sym c.requires.base) ∙ c.requires.through) }

pub of_words-requires : goal.of_words-requires
of_words-requires c =
    opened c.args.store.now c.requires.well_formed c.args.plan c.requires.plan (ap (λ b. b + length c.args.plan.levels) (sym c.requires.base) ∙ c.requires.through) c.as_slice.result.now (c.as_slice.ensures ∙ c.in_ok-words.ensures)

pub invariant_of-pass-clause-sized : goal.invariant_of-pass-clause-sized
invariant_of-pass-clause-sized c =
    let h = c.in_ok-table.ensures in
    let open' = opened c.args.store.now c.requires.well_formed c.args.plan c.requires.plan (ap (λ b. b + length c.args.plan.levels) (sym c.requires.base) ∙ c.requires.through) c.as_slice.result.now (c.as_slice.ensures ∙ c.in_ok-words.ensures) in
    h.0 ∙ open'.wide

pub invariant_of-pass-clause-told : goal.invariant_of-pass-clause-told
invariant_of-pass-clause-told c = let h = c.in_ok-table.ensures in h.5

pub invariant_of-pass-clause-no_values : goal.invariant_of-pass-clause-no_values
invariant_of-pass-clause-no_values c = let h = c.in_ok-table.ensures in h.1

pub invariant_of-pass-clause-laid : goal.invariant_of-pass-clause-laid
invariant_of-pass-clause-laid c = (passed c.args.store.now c.requires.well_formed c.args.plan c.requires.plan (ap (λ b. b + length c.args.plan.levels) (sym c.requires.base) ∙ c.requires.through) c.requires.fused c.args.base c.requires.base).laid

pub invariant_of-pass-clause-heads : goal.invariant_of-pass-clause-heads
invariant_of-pass-clause-heads c = (passed c.args.store.now c.requires.well_formed c.args.plan c.requires.plan (ap (λ b. b + length c.args.plan.levels) (sym c.requires.base) ∙ c.requires.through) c.requires.fused c.args.base c.requires.base).heads

pub invariant_of-pass-clause-based : goal.invariant_of-pass-clause-based
invariant_of-pass-clause-based c = (passed c.args.store.now c.requires.well_formed c.args.plan c.requires.plan (ap (λ b. b + length c.args.plan.levels) (sym c.requires.base) ∙ c.requires.through) c.requires.fused c.args.base c.requires.base).based

pub invariant_of-pass-clause-through : goal.invariant_of-pass-clause-through
invariant_of-pass-clause-through c = (passed c.args.store.now c.requires.well_formed c.args.plan c.requires.plan (ap (λ b. b + length c.args.plan.levels) (sym c.requires.base) ∙ c.requires.through) c.requires.fused c.args.base c.requires.base).through

pub invariant_of-pass-clause-within : goal.invariant_of-pass-clause-within
invariant_of-pass-clause-within c = (passed c.args.store.now c.requires.well_formed c.args.plan c.requires.plan (ap (λ b. b + length c.args.plan.levels) (sym c.requires.base) ∙ c.requires.through) c.requires.fused c.args.base c.requires.base).within

pub invariant_of-pass-clause-levels_are : goal.invariant_of-pass-clause-levels_are
invariant_of-pass-clause-levels_are c = (passed c.args.store.now c.requires.well_formed c.args.plan c.requires.plan (ap (λ b. b + length c.args.plan.levels) (sym c.requires.base) ∙ c.requires.through) c.requires.fused c.args.base c.requires.base).levels_are

pub invariant_of-pass-clause-short : goal.invariant_of-pass-clause-short
invariant_of-pass-clause-short c = (passed c.args.store.now c.requires.well_formed c.args.plan c.requires.plan (ap (λ b. b + length c.args.plan.levels) (sym c.requires.base) ∙ c.requires.through) c.requires.fused c.args.base c.requires.base).short

pub invariant_of-pass-clause-kinds : goal.invariant_of-pass-clause-kinds
invariant_of-pass-clause-kinds c = (passed c.args.store.now c.requires.well_formed c.args.plan c.requires.plan (ap (λ b. b + length c.args.plan.levels) (sym c.requires.base) ∙ c.requires.through) c.requires.fused c.args.base c.requires.base).kinds

pub invariant_of-pass-clause-slot_levels : goal.invariant_of-pass-clause-slot_levels
invariant_of-pass-clause-slot_levels c = (passed c.args.store.now c.requires.well_formed c.args.plan c.requires.plan (ap (λ b. b + length c.args.plan.levels) (sym c.requires.base) ∙ c.requires.through) c.requires.fused c.args.base c.requires.base).slot_levels

pub invariant_of-pass-clause-mask_levels : goal.invariant_of-pass-clause-mask_levels
invariant_of-pass-clause-mask_levels c = (passed c.args.store.now c.requires.well_formed c.args.plan c.requires.plan (ap (λ b. b + length c.args.plan.levels) (sym c.requires.base) ∙ c.requires.through) c.requires.fused c.args.base c.requires.base).mask_levels

pub invariant_of-pass-clause-small : goal.invariant_of-pass-clause-small
invariant_of-pass-clause-small c = (passed c.args.store.now c.requires.well_formed c.args.plan c.requires.plan (ap (λ b. b + length c.args.plan.levels) (sym c.requires.base) ∙ c.requires.through) c.requires.fused c.args.base c.requires.base).small

pub invariant_of-pass-clause-some : goal.invariant_of-pass-clause-some
invariant_of-pass-clause-some c = (passed c.args.store.now c.requires.well_formed c.args.plan c.requires.plan (ap (λ b. b + length c.args.plan.levels) (sym c.requires.base) ∙ c.requires.through) c.requires.fused c.args.base c.requires.base).some

pub invariant_of-pass-clause-few : goal.invariant_of-pass-clause-few
invariant_of-pass-clause-few c = (passed c.args.store.now c.requires.well_formed c.args.plan c.requires.plan (ap (λ b. b + length c.args.plan.levels) (sym c.requires.base) ∙ c.requires.through) c.requires.fused c.args.base c.requires.base).few

pub invariant_of-pass-clause-room : goal.invariant_of-pass-clause-room
invariant_of-pass-clause-room c = (passed c.args.store.now c.requires.well_formed c.args.plan c.requires.plan (ap (λ b. b + length c.args.plan.levels) (sym c.requires.base) ∙ c.requires.through) c.requires.fused c.args.base c.requires.base).room

pub returns-clause-seat : goal.returns-clause-seat
returns-clause-seat c =
    let h = c.in_ok-table.ensures in
    record {
      at = record {
        table = h.2;
        told = ap (λ m. m.0.told) h.4;
        spare = λ l t has. absurd (let none : 0 < pairs l t [] = subst (λ s. 0 < pairs l t s) (ap (λ m. m.0.spare) h.4) has in omega arith);
      };
      inside = newcomer-inside c.args.plan.start c.in_ok-table.seat.me.0 (told_at c.args.plan.start) (ap (λ m. m.0) h.4);
    }

pub returns-clause-given : goal.returns-clause-given
returns-clause-given c = given c.args.store.now c.requires.well_formed c.args.plan c.requires.plan (ap (λ b. b + length c.args.plan.levels) (sym c.requires.base) ∙ c.requires.through)

pub returns-clause-worker : goal.returns-clause-worker
returns-clause-worker c = let h = c.in_ok-table.ensures in ap (λ m. m.0) h.4
