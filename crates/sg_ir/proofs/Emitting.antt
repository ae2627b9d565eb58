-- What one emitted instruction adds to every run.
use Rattle.std.proofs.Common.{◌≡◌, ℕ, ◌+◌, ◌<◌, eqb, List, ◌∷◌, length, refl, ap, ◌∙◌, arith, Option}
use Rattle.std.proofs.lemmas.Bool.{eq-eqb, ne_eqb, cond-true, cond-false}
use Rattle.std.proofs.lemmas.List.{length_push}
use Rattle.sg_words.specs.declared.operators.Ty.{Ty}
use Rattle.sg_layout.specs.declared.shape.Shape.{Shape}
use Rattle.sg_ir.specs.declared.code.Inst.{Inst}
use Rattle.sg_ir.specs.declared.names.Names.{Names}
use Rattle.sg_ir.specs.Runs.{Seen, Place, Access, Moved, put, set_reg, set_place, add_access, does, runs}
use Rattle.sg_ir.specs.Trimmed.{Way, Ways, way_of}
use Rattle.sg_ir.specs.Trails.{trail, ways_after}
use Rattle.sg_ir.specs.Emits.{From, root_in, root_along, NamesGrow, Computes, Reaches, Fetches, AddsReg, AddsPlace, PutsReg, PutsPlace}
use Rattle.sg_ir.proofs.Equations.{runs-more}
use Rattle.sg_ir.proofs.Trailing.{ways-more}

pub put-same : {A : Type 0} (to : ℕ) (new : A) (old : ℕ → A) → put to new old to ≡ new
put-same to new old = cond-true (eqb to to) new (old to) (eq-eqb to to refl)

pub put-other : {A : Type 0} (to other : ℕ) (new : A) (old : ℕ → A) → other < to → put to new old other ≡ old other
put-other to other new old below = cond-false (eqb other to) new (old other) (ne_eqb other to (λ same. omega arith))

way-same : (to : ℕ) (way : Way) (ways : Ways) → way_of ((to, way) ∷ ways) to ≡ way
way-same to way ways = cond-true (eqb to to) way (way_of ways to) (eq-eqb to to refl)

way-other : (to p : ℕ) (way : Way) (ways : Ways) → p < to → way_of ((to, way) ∷ ways) p ≡ way_of ways p
way-other to p way ways below = cond-false (eqb to p) way (way_of ways p) (ne_eqb to p (λ same. omega arith))

grows-reg : (ty : Ty) (to : ℕ) (old new : Names) → AddsReg ty to old new → NamesGrow old new × (to < length new.regs)
grows-reg ty to old new adds =
    let longer : length new.regs ≡ length old.regs + 1 = ap length adds.regs ∙ length_push old.regs ty in
    let number = adds.number in
    let places = adds.places in
    (record { regs = omega arith; places = omega arith }, omega arith)

grows-place : (to : ℕ) (old new : Names) → AddsPlace to old new → NamesGrow old new × (to < new.places)
grows-place to old new adds =
    let same : length new.regs ≡ length old.regs = ap length adds.regs in
    let number = adds.number in
    let places = adds.places in
    (record { regs = omega arith; places = omega arith }, omega arith)

-- if an instruction sets one register, the block with it computes the word
pub computes : (ty : Ty) (word : Seen → Moved → ℕ) (inst : ℕ → Inst) (to : ℕ) (old new : Names) (before after : List Inst) →
    ((seen : Seen) (now : Moved) → does seen (inst to) now ≡ set_reg to (word seen now) now) →
    ((ways : Ways) → (trail (inst to) ways).1 ≡ ways) →
    PutsReg ty inst to old new before after → (shapes : List Shape) → Computes shapes word to old new before after
computes ty word inst to old new before after step stays puts shapes =
    let grows = grows-reg ty to old new puts.names in
    let ran : (seen : Seen) (start : Moved) → runs seen after start ≡ set_reg to (word seen (runs seen before start)) (runs seen before start) =
    λ seen start. ap (λ block. runs seen block start) puts.block ∙ (runs-more seen before (inst to) start ∙ step seen (runs seen before start)) in
    record {
      extends = record {
        grows = grows.0;
        ways = λ ways p below. ap (λ (all : Ways). way_of all p) (ap (λ block. ways_after block ways) puts.block ∙ (ways-more before (inst to) ways ∙ stays (ways_after before ways)));
        keeps = λ seen same start. record {
          regs = λ r below. ap (λ (m : Moved). m.regs r) (ran seen start) ∙ put-other to r (word seen (runs seen before start)) (runs seen before start).regs (let number = puts.names.number in omega arith);
          places = λ p below. ap (λ (m : Moved). m.places p) (ran seen start);
          roots = λ p below. ap (λ (m : Moved). m.roots p) (ran seen start);
          vars = ap (λ (m : Moved). m.vars) (ran seen start);
          writes = ap (λ (m : Moved). m.writes) (ran seen start);
          wants = ap (λ (m : Moved). m.wants) (ran seen start);
        };
      };
      quiet = λ seen same start. ap (λ (m : Moved). m.accesses) (ran seen start);
      named = grows.1;
      value = λ seen same start. ap (λ (m : Moved). m.regs to) (ran seen start) ∙ put-same to (word seen (runs seen before start)) (runs seen before start).regs;
    }

-- if an instruction sets one place, the block with it reaches the place
pub reaches : (place : Seen → Moved → Option Place) (from : From) (way : Ways → Way) (inst : ℕ → Inst) (to : ℕ) (old new : Names) (before after : List Inst) →
    ((seen : Seen) (now : Moved) → does seen (inst to) now ≡ set_place to (root_in from now) (place seen now) now) →
    ((ways : Ways) → (trail (inst to) ways).1 ≡ (to, way ways) ∷ ways) → ((ways : Ways) → (way ways).root ≡ root_along from ways) →
    PutsPlace inst to old new before after → (shapes : List Shape) → Reaches shapes place from to old new before after
reaches place from way inst to old new before after step goes comes puts shapes =
    let grows = grows-place to old new puts.names in
    let ran : (seen : Seen) (start : Moved) → runs seen after start ≡ set_place to (root_in from (runs seen before start)) (place seen (runs seen before start)) (runs seen before start) =
    λ seen start. ap (λ block. runs seen block start) puts.block ∙ (runs-more seen before (inst to) start ∙ step seen (runs seen before start)) in
    let made : (ways : Ways) → ways_after after ways ≡ (to, way (ways_after before ways)) ∷ ways_after before ways =
    λ ways. ap (λ block. ways_after block ways) puts.block ∙ (ways-more before (inst to) ways ∙ goes (ways_after before ways)) in
    record {
      extends = record {
        grows = grows.0;
        ways = λ ways p below. ap (λ (all : Ways). way_of all p) (made ways) ∙ way-other to p (way (ways_after before ways)) (ways_after before ways) (let number = puts.names.number in omega arith);
        keeps = λ seen same start. record {
          regs = λ r below. ap (λ (m : Moved). m.regs r) (ran seen start);
          places = λ p below. ap (λ (m : Moved). m.places p) (ran seen start) ∙ put-other to p (place seen (runs seen before start)) (runs seen before start).places (let number = puts.names.number in omega arith);
          roots = λ p below. ap (λ (m : Moved). m.roots p) (ran seen start) ∙ put-other to p (root_in from (runs seen before start)) (runs seen before start).roots (let number = puts.names.number in omega arith);
          vars = ap (λ (m : Moved). m.vars) (ran seen start);
          writes = ap (λ (m : Moved). m.writes) (ran seen start);
          wants = ap (λ (m : Moved). m.wants) (ran seen start);
        };
      };
      quiet = λ seen same start. ap (λ (m : Moved). m.accesses) (ran seen start);
      named = grows.1;
      value = λ seen same start. ap (λ (m : Moved). m.places to) (ran seen start) ∙ put-same to (place seen (runs seen before start)) (runs seen before start).places;
      rooted = λ seen same start. ap (λ (m : Moved). m.roots to) (ran seen start) ∙ put-same to (root_in from (runs seen before start)) (runs seen before start).roots;
      comes = λ ways. ap (λ (all : Ways). (way_of all to).root) (made ways) ∙ (ap (λ (it : Way). it.root) (way-same to (way (ways_after before ways)) (ways_after before ways)) ∙ comes (ways_after before ways));
    }

-- where an instruction sets one register by one access
pub fetches : (ty : Ty) (word : Seen → Moved → ℕ) (access : Moved → Access) (inst : ℕ → Inst) (to : ℕ) (old new : Names) (before after : List Inst) →
    ((seen : Seen) (now : Moved) → does seen (inst to) now ≡ set_reg to (word seen now) (add_access (access now) now)) →
    ((ways : Ways) → (trail (inst to) ways).1 ≡ ways) →
    PutsReg ty inst to old new before after → (shapes : List Shape) → Fetches shapes word access to old new before after
fetches ty word access inst to old new before after step stays puts shapes =
    let grows = grows-reg ty to old new puts.names in
    let ran : (seen : Seen) (start : Moved) → runs seen after start ≡ set_reg to (word seen (runs seen before start)) (add_access (access (runs seen before start)) (runs seen before start)) =
    λ seen start. ap (λ block. runs seen block start) puts.block ∙ (runs-more seen before (inst to) start ∙ step seen (runs seen before start)) in
    record {
      extends = record {
        grows = grows.0;
        ways = λ ways p below. ap (λ (all : Ways). way_of all p) (ap (λ block. ways_after block ways) puts.block ∙ (ways-more before (inst to) ways ∙ stays (ways_after before ways)));
        keeps = λ seen same start. record {
          regs = λ r below. ap (λ (m : Moved). m.regs r) (ran seen start) ∙ put-other to r (word seen (runs seen before start)) (runs seen before start).regs (let number = puts.names.number in omega arith);
          places = λ p below. ap (λ (m : Moved). m.places p) (ran seen start);
          roots = λ p below. ap (λ (m : Moved). m.roots p) (ran seen start);
          vars = ap (λ (m : Moved). m.vars) (ran seen start);
          writes = ap (λ (m : Moved). m.writes) (ran seen start);
          wants = ap (λ (m : Moved). m.wants) (ran seen start);
        };
      };
      accessed = λ seen same start. ap (λ (m : Moved). m.accesses) (ran seen start);
      named = grows.1;
      value = λ seen same start. ap (λ (m : Moved). m.regs to) (ran seen start) ∙ put-same to (word seen (runs seen before start)) (runs seen before start).regs;
    }
