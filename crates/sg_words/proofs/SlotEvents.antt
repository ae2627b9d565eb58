-- Each atomic step on a slot word or on the count of tickets is one event of a race for the slots of one node.
use Rattle.std.proofs.Common.{◌≡◌, ℕ, ◌+◌, ◌-◌, ◌<◌, ◌≢◌, inl, Bool, true, false, cond, ◌==◌, List, length, set, refl, sym, ap, ◌∙◌, arith}
use Rattle.std.specs.Prelude.{slice_index}
use Rattle.std.proofs.lemmas.List.{set-get_or}
use Rattle.std.proofs.lemmas.Bool.Decides.{nat_tests}
use Rattle.sg_words.specs.declared.race.Worker.{Worker}
use Rattle.sg_words.specs.Counts.{pairs, firsts}
use Rattle.sg_words.specs.RaceMachine.{Event, draw, link, see, miss, Needs, state_after, worker, after_see, after_miss, after_link, after_draw}
use Rattle.sg_words.specs.SlotRaces.{slot_setting, slot_race}

module _ (old old_keys stock told slots keys counts : List ℕ) (views : List Worker) (id : ℕ) where
  -- the worker's view, and what an event needs and does
  abbrev me : Worker
  me = worker (slot_race slots keys counts views) id

  abbrev Happens : Event → List ℕ → List ℕ → Worker → Type 0
  Happens e slots' counts' w = Needs (slot_setting old old_keys stock told) (slot_race slots keys counts views) e
      × (state_after (slot_setting old old_keys stock told) e (slot_race slots keys counts views) ≡ slot_race slots' keys counts' (set views id w))

  -- a load of slot i
  pub look_happens : (i word : ℕ) → slice_index slots i ≡ word → i < length slots → 0 < me.share
      → Happens (cond (word == 0) (miss id i) (see id i)) slots counts (cond (word == 0) (after_miss i me) (after_see i (word - 1) me))
  look_happens i word here within live = go (word == 0) refl
    where
      go : (b : Bool) → (word == 0) ≡ b → Happens (cond b (miss id i) (see id i)) slots counts (cond b (after_miss i me) (after_see i (word - 1) me))
      go true e = let empty : word ≡ 0 = grind (arith, nat_tests) in ((live, within, here ∙ empty), refl)
      go false e =
          let full : word ≢ 0 = (λ z. grind (arith, nat_tests)) in
          ((live, λ z. full (sym here ∙ z)), ap (λ x. slot_race slots keys counts (set views id (after_see i (x - 1) me))) here)

  -- an add of 1 to the count
  pub draw_happens : (count : ℕ) → slice_index counts 0 ≡ count → 0 < length counts → 0 < me.share → firsts 0 me.spare ≡ 0 → firsts 0 me.past ≡ 0
      → Happens (draw id 0) slots (set counts 0 (count + 1)) (after_draw 0 (length stock) count me)
  draw_happens count here within live spare past =
      ((live, within, spare, past), ap (λ x. slot_race slots keys (set counts 0 (x + 1)) (set views id (after_draw 0 (length stock) x me))) here)

  -- an exchange of 0 for the link of ticket t at slot i
  pub try_happens : (i t word : ℕ) → slice_index slots i ≡ word → i < length slots → 0 < me.share → 0 < pairs 0 t me.spare
      → Happens (cond (word == 0) (link id i t) (see id i)) (set slots i (cond (word == 0) (slice_index stock t + 1) word)) counts
      (cond (word == 0) (after_link 0 i t (slice_index stock t) me) (after_see i (word - 1) me))
  try_happens i t word here within live has = go (word == 0) refl
    where
      go : (b : Bool) → (word == 0) ≡ b → Happens (cond b (link id i t) (see id i)) (set slots i (cond b (slice_index stock t + 1) word)) counts
          (cond b (after_link 0 i t (slice_index stock t) me) (after_see i (word - 1) me))
      go true e = let empty : word ≡ 0 = grind (arith, nat_tests) in ((live, within, here ∙ empty, has, inl refl), refl)
      go false e =
          let full : word ≢ 0 = (λ z. grind (arith, nat_tests)) in (
            (live, λ z. full (sym here ∙ z)),
            ap (λ x. slot_race slots keys counts (set views id (after_see i (x - 1) me))) here
                ∙ ap (λ l. slot_race l keys counts (set views id (after_see i (word - 1) me))) (sym (set-get_or slots i 0) ∙ ap (set slots i) here),
          )
