-- What a descent keeps of a plan that goes through the last fused node.
use Rattle.std.proofs.Common.{◌≡◌, ◌≢◌, ℕ, suc, ◌+◌, ◌-◌, ◌*◌, ◌<◌, ◌≤◌, List, length, sym, ap, ◌∙◌, subst, arith}
use Rattle.std.specs.Prelude.{◌^◌, slice_index}
use Rattle.sg_words.specs.declared.race.Worker.{Worker}
use Rattle.sg_words.specs.RaceMachine.{newcomer}
use Rattle.sg_layout.specs.declared.shape.Kind.TheVariants.{Bitmasked, Pointer, Hash, Dynamic}
use Rattle.sg_layout.specs.declared.shape.Shape.{Shape}
use Rattle.sg_layout.specs.Axes.{sizes_of}
use Rattle.sg_layout.specs.Live.{kind_at}
use Rattle.sg_layout.proofs.Uses.{few_nodes}
use Rattle.sg_store.specs.StoreWords.{StoreWords}
use Rattle.sg_store.specs.WellFormed.{IsWellFormed}
use Rattle.sg_activate.specs.declared.descent.rule.Start.{Start}
use Rattle.sg_activate.specs.declared.descent.level.Level.{Level}
use Rattle.sg_activate.specs.declared.descent.plan.Plan.{Plan}
use Rattle.sg_activate.specs.TableParts.{first_of}
use Rattle.sg_activate.specs.DescentRace.{slots_each, words_each}
use Rattle.sg_activate.specs.Descending.{is_pointer, is_mask, last_fused, open_before, number_among}
use Rattle.sg_activate.specs.Descents.{AreInside}
use Rattle.sg_activate.specs.steps.DescentParts.{IsLaidOut, AreHeads}
use Rattle.sg_activate.specs.steps.DescentWalk.{level_at, places_at, IsLevelAt, IsSlotLevel, IsMaskLevel}
use Rattle.sg_activate.specs.steps.DescentPlans.{IsPlanOf}
use Rattle.sg_activate.proofs.DescentNodeSteps.{last-within}
use Rattle.sg_activate.proofs.DescentPlanned.{laid, row, few-parts, room, some-word}

-- what the ghosts of a descent say of its start and levels
pub record ArePassed (start : Start) (levels : List Level) (base : ℕ) : Type 0 where
  pub laid : IsLaidOut start
  pub heads : AreHeads start base
  pub based : base ≡ open_before start.layout
  pub through : base + length levels ≡ last_fused start.layout
  pub within : base + length levels ≤ length start.layout.nodes
  pub levels_are : (k : ℕ) → k < length levels → IsLevelAt start base levels k
  pub short : base + length levels ≤ 6
  pub kinds : (k : ℕ) → k < length levels → ((level_at levels k).kind ≢ Hash) × ((level_at levels k).kind ≢ Dynamic)
  pub slot_levels : (k : ℕ) → k < length levels → (level_at levels k).kind ≡ Pointer → IsSlotLevel start levels k
  pub mask_levels : (k : ℕ) → k < length levels → (level_at levels k).kind ≡ Bitmasked → IsMaskLevel start levels k
  pub small : (k : ℕ) → k < length levels → places_at start start.head_places levels k * (level_at levels k).size ≤ 2 ^ 47
  pub some : 0 < length start.links + length start.masks
  pub few : length start.slot_parts ≤ 6
  pub room : length start.links + length start.masks + length start.slot_parts < 2 ^ 56

module _ (store : StoreWords) (well : IsWellFormed store) (plan : Plan) (is : IsPlanOf store plan) (through : open_before store.shape + length plan.levels ≡ last_fused store.shape) (fused : 1 ≤ last_fused store.shape) where
  abbrev start : Start
  start = plan.start

  abbrev base : ℕ
  base = open_before store.shape

  within : base + length plan.levels ≤ length store.shape.nodes
  within = let w = last-within store.shape.nodes 1 0 (omega arith) in omega arith

  level-is : (k : ℕ) → k < length plan.levels → IsLevelAt start base plan.levels k
  level-is k below =
      let r = row store well plan is through k below in
      let back : suc (base + k) - 1 ≡ base + k = omega arith in
      record {
        there = subst (λ (shape : Shape). base + k < length shape.nodes) (sym is.shape) (let t = r.there in omega arith);
        kind = r.kind ∙ ap (λ (shape : Shape). kind_at shape.nodes (suc (base + k))) (sym is.shape);
        size = r.size ∙ ap (slice_index (sizes_of store.shape.nodes)) back ∙ ap (λ (shape : Shape). slice_index (sizes_of shape.nodes) (base + k)) (sym is.shape);
        pointer = λ e.
            (let s = r.slots e in
            let part = s.part ∙ ap (λ (shape : Shape). number_among is_pointer shape.nodes (suc (base + k))) (sym is.shape) in
            (part, s.first ∙ ap (first_of (slots_each start)) part));
        masked = λ e.
            (let m = r.masks e in
            let part = m.part ∙ ap (λ (shape : Shape). number_among is_mask shape.nodes (suc (base + k))) (sym is.shape) in
            (part, m.first ∙ ap (λ p. first_of (words_each start) p * 64) part));
      }

  at-base : ArePassed start plan.levels base
  at-base = record {
    laid = laid store well plan is through;
    heads = is.heads;
    based = ap open_before (sym is.shape);
    through = through ∙ ap last_fused (sym is.shape);
    within = subst (λ (shape : Shape). base + length plan.levels ≤ length shape.nodes) (sym is.shape) within;
    levels_are = level-is;
    short = (let w = within in let n = few_nodes store.shape well.accepted in omega arith);
    kinds = λ k below. (let r = row store well plan is through k below in (r.not_hash, r.not_dynamic));
    slot_levels = λ k below e.
        (let s = (row store well plan is through k below).slots e in
        record { part = s.there; first = s.first; over = s.part_over; width = s.part_width; fits = s.fits });
    mask_levels = λ k below e.
        (let m = (row store well plan is through k below).masks e in
        record { part = m.there; first = m.first; over = m.part_over; width = m.part_width; fits = m.fits });
    small = λ k below. (row store well plan is through k below).small;
    some = some-word store well plan is through fused;
    few = few-parts store well plan is through;
    room = room store well plan is through;
  }

  pub passed : (b : ℕ) → b ≡ open_before store.shape → ArePassed plan.start plan.levels b
  passed b e = subst (λ b. ArePassed plan.start plan.levels b) (sym e) at-base

-- a newcomer has made and marked nothing
pub newcomer-inside : (start : Start) (v : Worker) (told : List ℕ) → v ≡ newcomer told 16 → AreInside start v
newcomer-inside start v told is = subst (λ w. AreInside start w) (sym is) (record { made = λ i t some. absurd (omega arith); marked = λ b some. absurd (omega arith) })
