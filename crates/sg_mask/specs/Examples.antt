-- Worked equations: two mask words, of which bit 0 is set at the start.
use Rattle.std.specs.Prelude.{◌≡◌, ℕ, ◌+◌, List, [], ◌∷◌, refl}
use Rattle.std.proofs.Common.{lit<, arith, inl}
use mathlib.Core.Option.{none}
use Rattle.atomic_table.specs.Table.{Me, step}
use Rattle.sg_words.specs.declared.race.Worker.{Worker}
use Rattle.sg_words.specs.Counts.{bit_in}
use Rattle.sg_words.specs.RaceMachine.{enrol, mark, join, newcomer, nobody}
use Rattle.sg_mask.specs.Marking.{AreMarked}
use Rattle.sg_mask.specs.MaskRace.{first_worker, marks}
use Rattle.sg_mask.specs.MaskLaws.{IsEvent, at, StartIsEvent, MarkIsEvent, SplitIsEvent, JoinIsEvent}

abbrev pub two_words : List ℕ
two_words = 1 ∷ 0 ∷ []

-- ---- what a pass leaves that marked bit 66 twice and bit 0 once
abbrev pub Left : List ℕ → Type 0
Left = AreMarked two_words (66 ∷ 0 ∷ 66 ∷ [])

pub marked_twice_is_one : (new : List ℕ) → Left new → bit_in new 66 ≡ 1
marked_twice_is_one new left = left.bits 66

pub set_and_marked_is_one : (new : List ℕ) → Left new → bit_in new 0 ≡ 1
set_and_marked_is_one new left = left.bits 0

pub unmarked_is_zero : (new : List ℕ) → Left new → bit_in new 2 ≡ 0
unmarked_is_zero new left = left.bits 2

pub no_mark_is_lost : AreMarked two_words (66 ∷ []) two_words → ⊥
no_mark_is_lost left = let bit = left.bits 66 in omega arith

pub no_bit_is_taken : AreMarked two_words [] (0 ∷ 0 ∷ []) → ⊥
no_bit_is_taken left = let bit = left.bits 0 in omega arith

pub no_word_is_lost : AreMarked two_words [] (1 ∷ []) → ⊥
no_word_is_lost left = let words = left.long in omega arith

-- ---- a worker that has marked bit 3 is split, the other marks bit 66, and it is joined into the first
abbrev pub alone : List Worker
alone = record first_worker { marked = 3 ∷ [] } ∷ []

abbrev pub halves : List Worker
halves = record (newcomer [] 8) { marked = 3 ∷ [] } ∷ newcomer [] 8 ∷ []

abbrev pub both_marked : List Worker
both_marked = record (newcomer [] 8) { marked = 3 ∷ [] } ∷ record (newcomer [] 8) { marked = 66 ∷ [] } ∷ []

abbrev pub one_again : List Worker
one_again = record (newcomer [] 8) { size = 2; back = 8; marked = 3 ∷ 66 ∷ [] } ∷ nobody ∷ []

-- the step shows the second word and the power 4
pub told_of_its_bit : (me : Me (Unit {0}) Worker) → marks (step 16 1 4 0 none) (first_worker, []) 0 me → me ≡ (record (newcomer [] 16) { marked = 66 ∷ [] }, [])
told_of_its_bit me told = told 66 refl refl

pub opens : StartIsEvent two_words
opens = (refl, (refl, refl))

pub first_mark : MarkIsEvent two_words two_words (first_worker ∷ []) 0 3 → IsEvent two_words two_words (first_worker ∷ []) (mark 0 3) (9 ∷ 0 ∷ []) alone
first_mark law = law (lit< tt) (lit< tt)

pub splits : SplitIsEvent two_words (9 ∷ 0 ∷ []) alone 0 → IsEvent two_words (9 ∷ 0 ∷ []) alone (enrol 0) (9 ∷ 0 ∷ []) halves
splits law = law (lit< tt)

pub other_mark : MarkIsEvent two_words (9 ∷ 0 ∷ []) halves 1 66 → IsEvent two_words (9 ∷ 0 ∷ []) halves (mark 1 66) (9 ∷ 4 ∷ []) both_marked
other_mark law = law (lit< tt) (lit< tt)

pub joins : JoinIsEvent two_words (9 ∷ 4 ∷ []) both_marked 0 1 → IsEvent two_words (9 ∷ 4 ∷ []) both_marked (join 0 1) (9 ∷ 4 ∷ []) one_again
joins law = law (lit< tt) (lit< tt) (λ same. omega arith)

-- and these are events of the machine
pub mark_event : IsEvent two_words (9 ∷ 0 ∷ []) halves (mark 1 66) (9 ∷ 4 ∷ []) both_marked
mark_event = ((lit< tt, lit< tt, inl refl), refl)

pub join_event : IsEvent two_words (9 ∷ 4 ∷ []) both_marked (join 0 1) (9 ∷ 4 ∷ []) one_again
join_event = ((lit< tt, lit< tt, λ same. omega arith), refl)

-- neither one that was joined nor one that never came has a share, and nobody marks without one or after the words
pub nobody_has_a_share : (at one_again 1).share + (at one_again 2).share ≡ 0
nobody_has_a_share = refl

pub no_mark_without_a_share : (words : List ℕ) (views : List Worker) → IsEvent two_words (9 ∷ 4 ∷ []) one_again (mark 1 5) words views → ⊥
no_mark_without_a_share words views event = let share = event.0.0 in omega arith

pub no_mark_behind_the_words : (words : List ℕ) (views : List Worker) → IsEvent two_words (9 ∷ 0 ∷ []) halves (mark 0 128) words views → ⊥
no_mark_behind_the_words words views event = let inside = event.0.1 in omega arith
