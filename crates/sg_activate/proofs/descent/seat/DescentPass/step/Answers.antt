use Rattle.std.proofs.Common.{◌+◌, ◌<◌, ap, sym, subst, ◌∙◌, arith}
use Rattle.std.specs.Prelude.{slice_index, MatchOption}
use Rattle.sg_words.specs.Counts.{pairs, firsts, times_in}
use Rattle.sg_activate.specs.declared.descent.level.Level.{Level}
use Rattle.sg_activate.specs.DescentRace.{places_each}
use Rattle.sg_activate.specs.steps.DescentReaching.{offsets_below, place_from}
use Rattle.sg_activate.proofs.DescentAnswered.{long_below}
use Rattle.sg_activate.proofs.DescentMores.{once-more}
use Rattle.sg_activate.proofs.DescentSteps.{grew_not}
use Rattle.sg_activate.proofs.DescentStepAnswers.{IsStep, ask_inside, ask_here, ask_known, ask_answer, ask_missed, mark_inside, ask_grew, mark_known, mark_answer, mark_grew, dense_answer}
use Rattle.sg_activate.proofs.descent.seat.DescentPass.step.Goals as goal

pub mark_once-requires-clause-inside : goal.mark_once-requires-clause-inside
mark_once-requires-clause-inside c =
    let p = c.args.self.now in
    let s : IsStep p.start p.levels (place_from p.start p.base c.args.at) (offsets_below p.start p.base c.args.at) c.args.seat.now.seat.me.0 c.args.index c.args.place c.level-level.result c.slot_at-slot.result =
    record { level_is = c.level-level.ensures; slot_is = c.slot_at-slot.ensures.value; there = c.requires.there; long = long_below p c.args.at; below = c.slot_at-slot.ensures.below; stands = c.requires.stands; laid = p.laid } in
    let kind = sym (ap (λ (l : Level). l.kind) c.level-level.ensures) ∙ c.in-Bitmasked.is in
    mark_inside p.start p.levels (place_from p.start p.base c.args.at) (offsets_below p.start p.base c.args.at) c.args.seat.now.seat.me.0 c.args.index c.args.place c.level-level.result c.slot_at-slot.result s (p.mask_levels c.args.index c.requires.there kind)

pub mark_once-requires-clause-level : goal.mark_once-requires-clause-level
mark_once-requires-clause-level c = let short = c.args.self.now.short in let there = c.requires.there in omega arith

pub mark_once-requires-clause-known : goal.mark_once-requires-clause-known
mark_once-requires-clause-known c =
    let p = c.args.self.now in
    let s : IsStep p.start p.levels (place_from p.start p.base c.args.at) (offsets_below p.start p.base c.args.at) c.args.seat.now.seat.me.0 c.args.index c.args.place c.level-level.result c.slot_at-slot.result =
    record { level_is = c.level-level.ensures; slot_is = c.slot_at-slot.ensures.value; there = c.requires.there; long = long_below p c.args.at; below = c.slot_at-slot.ensures.below; stands = c.requires.stands; laid = p.laid } in
    let kind = sym (ap (λ (l : Level). l.kind) c.level-level.ensures) ∙ c.in-Bitmasked.is in
    mark_known p.start p.levels (place_from p.start p.base c.args.at) (offsets_below p.start p.base c.args.at) c.args.seat.now.seat.me.0 c.args.index c.args.place c.level-level.result c.slot_at-slot.result s (p.mask_levels c.args.index c.requires.there kind)

pub overflow_add-level : goal.overflow_add-level
overflow_add-level c =
    let p = c.args.self.now in
    let s : IsStep p.start p.levels (place_from p.start p.base c.args.at) (offsets_below p.start p.base c.args.at) c.args.seat.now.seat.me.0 c.args.index c.args.place c.level-level.result c.slot_at-slot.result =
    record { level_is = c.level-level.ensures; slot_is = c.slot_at-slot.ensures.value; there = c.requires.there; long = long_below p c.args.at; below = c.slot_at-slot.ensures.below; stands = c.requires.stands; laid = p.laid } in
    let kind = sym (ap (λ (l : Level). l.kind) c.level-level.ensures) ∙ c.in-Bitmasked.is in
    let in' = mark_inside p.start p.levels (place_from p.start p.base c.args.at) (offsets_below p.start p.base c.args.at) c.args.seat.now.seat.me.0 c.args.index c.args.place c.level-level.result c.slot_at-slot.result s (p.mask_levels c.args.index c.requires.there kind) in
    let room = p.room in
    omega arith

pub overflow_add-level-in-Pointer : goal.overflow_add-level-in-Pointer
overflow_add-level-in-Pointer c =
    let p = c.args.self.now in
    let s : IsStep p.start p.levels (place_from p.start p.base c.args.at) (offsets_below p.start p.base c.args.at) c.args.seat.now.seat.me.0 c.args.index c.args.place c.level-level.result c.slot_at-slot.result =
    record { level_is = c.level-level.ensures; slot_is = c.slot_at-slot.ensures.value; there = c.requires.there; long = long_below p c.args.at; below = c.slot_at-slot.ensures.below; stands = c.requires.stands; laid = p.laid } in
    let kind = sym (ap (λ (l : Level). l.kind) c.level-level.ensures) ∙ c.in-Pointer.is in
    let in' = ask_inside p.start p.levels (place_from p.start p.base c.args.at) (offsets_below p.start p.base c.args.at) c.args.seat.now.seat.me.0 c.args.index c.args.place c.level-level.result c.slot_at-slot.result s (p.slot_levels c.args.index c.requires.there kind) in
    let room = p.room in
    omega arith

pub ask-requires-clause-inside : goal.ask-requires-clause-inside
ask-requires-clause-inside c =
    let p = c.args.self.now in
    let s : IsStep p.start p.levels (place_from p.start p.base c.args.at) (offsets_below p.start p.base c.args.at) c.args.seat.now.seat.me.0 c.args.index c.args.place c.level-level.result c.slot_at-slot.result =
    record { level_is = c.level-level.ensures; slot_is = c.slot_at-slot.ensures.value; there = c.requires.there; long = long_below p c.args.at; below = c.slot_at-slot.ensures.below; stands = c.requires.stands; laid = p.laid } in
    let kind = sym (ap (λ (l : Level). l.kind) c.level-level.ensures) ∙ c.in-Pointer.is in
    ask_inside p.start p.levels (place_from p.start p.base c.args.at) (offsets_below p.start p.base c.args.at) c.args.seat.now.seat.me.0 c.args.index c.args.place c.level-level.result c.slot_at-slot.result s (p.slot_levels c.args.index c.requires.there kind)

pub ask-requires-clause-here : goal.ask-requires-clause-here
ask-requires-clause-here c =
    let p = c.args.self.now in
    let s : IsStep p.start p.levels (place_from p.start p.base c.args.at) (offsets_below p.start p.base c.args.at) c.args.seat.now.seat.me.0 c.args.index c.args.place c.level-level.result c.slot_at-slot.result =
    record { level_is = c.level-level.ensures; slot_is = c.slot_at-slot.ensures.value; there = c.requires.there; long = long_below p c.args.at; below = c.slot_at-slot.ensures.below; stands = c.requires.stands; laid = p.laid } in
    let kind = sym (ap (λ (l : Level). l.kind) c.level-level.ensures) ∙ c.in-Pointer.is in
    ask_here p.start p.levels (place_from p.start p.base c.args.at) (offsets_below p.start p.base c.args.at) c.args.seat.now.seat.me.0 c.args.index c.args.place c.level-level.result c.slot_at-slot.result s (p.slot_levels c.args.index c.requires.there kind)

pub ask-requires-clause-known : goal.ask-requires-clause-known
ask-requires-clause-known c =
    let p = c.args.self.now in
    let s : IsStep p.start p.levels (place_from p.start p.base c.args.at) (offsets_below p.start p.base c.args.at) c.args.seat.now.seat.me.0 c.args.index c.args.place c.level-level.result c.slot_at-slot.result =
    record { level_is = c.level-level.ensures; slot_is = c.slot_at-slot.ensures.value; there = c.requires.there; long = long_below p c.args.at; below = c.slot_at-slot.ensures.below; stands = c.requires.stands; laid = p.laid } in
    let kind = sym (ap (λ (l : Level). l.kind) c.level-level.ensures) ∙ c.in-Pointer.is in
    ask_known p.start p.levels (place_from p.start p.base c.args.at) (offsets_below p.start p.base c.args.at) c.args.seat.now.seat.me.0 c.args.index c.args.place c.level-level.result c.slot_at-slot.result s (p.slot_levels c.args.index c.requires.there kind)

pub returns-in-Dense-clause-answer : goal.returns-in-Dense-clause-answer
returns-in-Dense-clause-answer c =
    let p = c.args.self.now in
    let s : IsStep p.start p.levels (place_from p.start p.base c.args.at) (offsets_below p.start p.base c.args.at) c.args.seat.now.seat.me.0 c.args.index c.args.place c.level-level.result c.slot_at-slot.result =
    record { level_is = c.level-level.ensures; slot_is = c.slot_at-slot.ensures.value; there = c.requires.there; long = long_below p c.args.at; below = c.slot_at-slot.ensures.below; stands = c.requires.stands; laid = p.laid } in
    dense_answer p.start p.levels (place_from p.start p.base c.args.at) (offsets_below p.start p.base c.args.at) c.args.seat.now.seat.me.0 c.args.index c.args.place c.level-level.result c.slot_at-slot.result s c.in-Dense.is

pub returns-in-Dense-clause-grew : goal.returns-in-Dense-clause-grew
returns-in-Dense-clause-grew c =
    let p = c.args.self.now in
    grew_not p.start p.levels (place_from p.start p.base c.args.at) (offsets_below p.start p.base c.args.at) c.args.seat.now.seat.me.0

pub returns-in-Bitmasked-clause-grew : goal.returns-in-Bitmasked-clause-grew
returns-in-Bitmasked-clause-grew c =
    let p = c.args.self.now in
    let from = place_from p.start p.base c.args.at in
    let offs = offsets_below p.start p.base c.args.at in
    let s : IsStep p.start p.levels from offs c.args.seat.now.seat.me.0 c.args.index c.args.place c.level-level.result c.slot_at-slot.result =
    record { level_is = c.level-level.ensures; slot_is = c.slot_at-slot.ensures.value; there = c.requires.there; long = long_below p c.args.at; below = c.slot_at-slot.ensures.below; stands = c.requires.stands; laid = p.laid } in
    mark_grew p.start p.levels from offs c.args.seat.now.seat.me.0 c.args.index c.args.place c.level-level.result c.slot_at-slot.result s c.mark_once.new.seat.seat.me.0 c.in-Bitmasked.is
    (once-more (c.level-level.result.first + c.slot_at-slot.result) c.args.seat.now.seat.me.0 c.mark_once.new.seat.seat.me.0 c.mark_once.ensures.event) c.mark_once.ensures.event

pub returns-in-Some-clause-grew : goal.returns-in-Some-clause-grew
returns-in-Some-clause-grew c =
    let p = c.args.self.now in
    let from = place_from p.start p.base c.args.at in
    let offs = offsets_below p.start p.base c.args.at in
    let s : IsStep p.start p.levels from offs c.args.seat.now.seat.me.0 c.args.index c.args.place c.level-level.result c.slot_at-slot.result =
    record { level_is = c.level-level.ensures; slot_is = c.slot_at-slot.ensures.value; there = c.requires.there; long = long_below p c.args.at; below = c.slot_at-slot.ensures.below; stands = c.requires.stands; laid = p.laid } in
    ask_grew p.start p.levels from offs c.args.seat.now.seat.me.0 c.args.index c.args.place c.level-level.result c.slot_at-slot.result s c.ask.new.seat.seat.me.0 c.in-Pointer.is
    c.ask.ensures.more c.ask.ensures.made c.ask.ensures.marked

pub returns-in-None-clause-grew : goal.returns-in-None-clause-grew
returns-in-None-clause-grew c =
    let p = c.args.self.now in
    let from = place_from p.start p.base c.args.at in
    let offs = offsets_below p.start p.base c.args.at in
    let s : IsStep p.start p.levels from offs c.args.seat.now.seat.me.0 c.args.index c.args.place c.level-level.result c.slot_at-slot.result =
    record { level_is = c.level-level.ensures; slot_is = c.slot_at-slot.ensures.value; there = c.requires.there; long = long_below p c.args.at; below = c.slot_at-slot.ensures.below; stands = c.requires.stands; laid = p.laid } in
    ask_grew p.start p.levels from offs c.args.seat.now.seat.me.0 c.args.index c.args.place c.level-level.result c.slot_at-slot.result s c.ask.new.seat.seat.me.0 c.in-Pointer.is
    c.ask.ensures.more c.ask.ensures.made c.ask.ensures.marked

pub returns-in-Bitmasked-clause-more : goal.returns-in-Bitmasked-clause-more
returns-in-Bitmasked-clause-more c = once-more (c.level-level.result.first + c.slot_at-slot.result) c.args.seat.now.seat.me.0 c.mark_once.new.seat.seat.me.0 c.mark_once.ensures.event

pub returns-in-Bitmasked-clause-answer : goal.returns-in-Bitmasked-clause-answer
returns-in-Bitmasked-clause-answer c =
    let p = c.args.self.now in
    let s : IsStep p.start p.levels (place_from p.start p.base c.args.at) (offsets_below p.start p.base c.args.at) c.args.seat.now.seat.me.0 c.args.index c.args.place c.level-level.result c.slot_at-slot.result =
    record { level_is = c.level-level.ensures; slot_is = c.slot_at-slot.ensures.value; there = c.requires.there; long = long_below p c.args.at; below = c.slot_at-slot.ensures.below; stands = c.requires.stands; laid = p.laid } in
    let b = c.level-level.result.first + c.slot_at-slot.result in
    mark_answer p.start p.levels (place_from p.start p.base c.args.at) (offsets_below p.start p.base c.args.at) c.args.seat.now.seat.me.0 c.args.index c.args.place c.level-level.result c.slot_at-slot.result s c.mark_once.new.seat.seat.me.0 c.in-Bitmasked.is
    (once-more b c.args.seat.now.seat.me.0 c.mark_once.new.seat.seat.me.0 c.mark_once.ensures.event) c.mark_once.ensures.marked

pub returns-in-Some-clause-answer : goal.returns-in-Some-clause-answer
returns-in-Some-clause-answer c =
    let p = c.args.self.now in
    let s : IsStep p.start p.levels (place_from p.start p.base c.args.at) (offsets_below p.start p.base c.args.at) c.args.seat.now.seat.me.0 c.args.index c.args.place c.level-level.result c.slot_at-slot.result =
    record { level_is = c.level-level.ensures; slot_is = c.slot_at-slot.ensures.value; there = c.requires.there; long = long_below p c.args.at; below = c.slot_at-slot.ensures.below; stands = c.requires.stands; laid = p.laid } in
    let kind = sym (ap (λ (l : Level). l.kind) c.level-level.ensures) ∙ c.in-Pointer.is in
    let w = c.ask.new.seat.seat.me.0 in
    let i = c.level-level.result.first + c.slot_at-slot.result in
    let seen : 0 < pairs i c.in-Some.number w.seen = subst (λ r. MatchOption r ((0 < times_in i w.missed) × (0 < firsts c.level-level.result.part w.past)) (λ n. 0 < pairs i n w.seen)) c.in-Some.is c.ask.ensures.answer in
    let bound : c.in-Some.number < slice_index (places_each p.start) c.level-level.result.part = subst (λ r. MatchOption r (Unit {0}) (λ n. n < slice_index (places_each p.start) c.level-level.result.part)) c.in-Some.is c.ask.ensures.bound in
    ask_answer p.start p.levels (place_from p.start p.base c.args.at) (offsets_below p.start p.base c.args.at) c.args.seat.now.seat.me.0 c.args.index c.args.place c.level-level.result c.slot_at-slot.result s w c.in-Some.number c.in-Pointer.is
    (p.slot_levels c.args.index c.requires.there kind) c.ask.ensures.more seen bound

pub returns-in-None-clause-answer : goal.returns-in-None-clause-answer
returns-in-None-clause-answer c =
    let p = c.args.self.now in
    let s : IsStep p.start p.levels (place_from p.start p.base c.args.at) (offsets_below p.start p.base c.args.at) c.args.seat.now.seat.me.0 c.args.index c.args.place c.level-level.result c.slot_at-slot.result =
    record { level_is = c.level-level.ensures; slot_is = c.slot_at-slot.ensures.value; there = c.requires.there; long = long_below p c.args.at; below = c.slot_at-slot.ensures.below; stands = c.requires.stands; laid = p.laid } in
    let w = c.ask.new.seat.seat.me.0 in
    let i = c.level-level.result.first + c.slot_at-slot.result in
    let missed : (0 < times_in i w.missed) × (0 < firsts c.level-level.result.part w.past) = subst (λ r. MatchOption r ((0 < times_in i w.missed) × (0 < firsts c.level-level.result.part w.past)) (λ n. 0 < pairs i n w.seen)) c.in-None.is c.ask.ensures.answer in
    ask_missed p.start p.levels (place_from p.start p.base c.args.at) (offsets_below p.start p.base c.args.at) c.args.seat.now.seat.me.0 c.args.index c.args.place c.level-level.result c.slot_at-slot.result s w c.in-Pointer.is c.ask.ensures.more missed.0 missed.1
