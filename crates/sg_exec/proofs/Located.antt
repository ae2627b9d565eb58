-- The writes of code, where its slice wants them.
use Rattle.std.proofs.Common.{◌≡◌, ℕ, Bool, true, false, ◌&&◌, not, cond, inl, inr, List, [], ◌∷◌, map, Option, Some, None, All, refl, sym, ap, ◌∙◌, subst}
use Rattle.std.specs.Prelude.{filter, slice_get, Contains}
use Rattle.std.specs.List.{AllZip}
use Rattle.std.proofs.lemmas.Bool.{cases_Bool, cond-true, cond-false, and_parts, not-false, both_ways}
use Rattle.std.proofs.lemmas.List.Elements.{All-head, All-tail}
use Rattle.sg_words.proofs.Uses.{contains_none, contains_cases}
use Rattle.sg_coord.specs.declared.coord.Coord.{Coord}
use Rattle.sg_layout.specs.declared.shape.Shape.{Shape}
use Rattle.sg_flat.specs.declared.effects.Domain.{Domain}
use Rattle.sg_flat.specs.declared.effects.Way.TheVariants as way
use Rattle.sg_flat.specs.declared.effects.Write.{Write}
use Rattle.sg_flat.specs.declared.effects.RunFault.TheVariants.{WriteOutside}
use Rattle.sg_flat.specs.Kernel.{is_inside_of, outside_among}
use Rattle.sg_ir.specs.Runs.{CodeWrite, CodeWant, is_own}
use Rattle.sg_ir.specs.Apt.{walks, may_activate, IsWantOf}
use Rattle.sg_exec.specs.Running.{coord_of_write, wants_left, write_at, located}
use Rattle.sg_exec.specs.steps.Machines.{IsAtLoop, want_write}
use Rattle.sg_exec.specs.steps.Landing.{code_write}
use Rattle.sg_exec.specs.steps.Wants.{bare, acts}

module _ (domain : Domain) (at : Coord) where
  step : (write : CodeWrite) (writes : List CodeWrite) (wants : List CodeWant) (may : Bool) → may_activate domain write ≡ may
      → located domain at wants (write ∷ writes) ≡ write_at write (coord_of_write may wants at) ∷ located domain at (wants_left may wants) writes
  step write writes wants may is = ap (λ (b : Bool). write_at write (coord_of_write b wants at) ∷ located domain at (wants_left b wants) writes) is

  kept : {X : Type 0} (test : X → Bool) (x : X) (xs : List X) → test x ≡ true → filter test (x ∷ xs) ≡ x ∷ filter test xs
  kept test x xs is = cond-true (test x) (x ∷ filter test xs) (filter test xs) is

  dropped : {X : Type 0} (test : X → Bool) (x : X) (xs : List X) → test x ≡ false → filter test (x ∷ xs) ≡ filter test xs
  dropped test x xs is = cond-false (test x) (x ∷ filter test xs) (filter test xs) is

  -- ---- what the slice wants

  module _ (shapes : List Shape) where
    abbrev Wanted : List CodeWant → List CodeWrite → Type 0
    Wanted wants writes = AllZip (IsWantOf shapes) wants (filter (may_activate domain) writes)

    same_want : (want : CodeWant) (write : CodeWrite) → IsWantOf shapes want write → want_write want ≡ bare (write_at write want.at)
    same_want want write is = ap (λ (l : ℕ). record { layout = l; place = 0; stmt = want.stmt; at = want.at; way = way.Own; value = 0 }) is.layout
        ∙ ap (λ (s : ℕ). record { layout = write.layout; place = 0; stmt = s; at = want.at; way = way.Own; value = 0 }) is.stmt

    pub wanted_are : (wants : List CodeWant) (writes : List CodeWrite) → Wanted wants writes → map want_write wants ≡ map bare (filter (acts domain) (located domain at wants writes))
    wanted_are [] [] zip = refl
    wanted_are (want ∷ wants) [] zip = absurd zip
    wanted_are wants (write ∷ writes) zip = elim (cases_Bool (may_activate domain write)) [
      | inl may ↦ by_want wants (λ ws more. wanted_are ws writes more) (subst (λ (ws : List CodeWrite). AllZip (IsWantOf shapes) wants ws) (kept (may_activate domain) write writes may) zip) may
      | inr not ↦ wanted_are wants writes (subst (λ (ws : List CodeWrite). AllZip (IsWantOf shapes) wants ws) (dropped (may_activate domain) write writes not) zip)
          ∙ ap (map bare) (sym (dropped (acts domain) (write_at write at) (located domain at wants writes) not))
          ∙ ap (λ (ws : List Write). map bare (filter (acts domain) ws)) (sym (step write writes wants false not))
    ]
      where
        by_want : (wants : List CodeWant) → ((ws : List CodeWant) → Wanted ws writes → map want_write ws ≡ map bare (filter (acts domain) (located domain at ws writes)))
            → AllZip (IsWantOf shapes) wants (write ∷ filter (may_activate domain) writes) → may_activate domain write ≡ true
            → map want_write wants ≡ map bare (filter (acts domain) (located domain at wants (write ∷ writes)))
        by_want [] rest zip may = absurd zip
        by_want (want ∷ wants) rest zip may =
            ap (λ (w : Write). w ∷ map want_write wants) (same_want want write zip.0)
            ∙ ap (λ (ws : List Write). bare (write_at write want.at) ∷ ws) (rest wants zip.1)
            ∙ ap (map bare) (sym (kept (acts domain) (write_at write want.at) (located domain at wants writes) may))
            ∙ ap (λ (ws : List Write). map bare (filter (acts domain) ws)) (sym (step write writes (want ∷ wants) true may))

    -- ---- the writes at their coordinates

    made_at : (write : CodeWrite) (x : Coord) → write.at ≡ cond (is_own write.way) (Some x) (cond (is_inside_of (slice_get shapes write.layout) x) (Some x) None) → write ≡ code_write shapes (write_at write x)
    made_at write x is = ap (λ (a : Option Coord). record write { at = a }) is

    at_of_want : (write : CodeWrite) (want : CodeWant) → IsWantOf shapes want write → is_inside_of (slice_get shapes write.layout) want.at ≡ true
        → write.at ≡ cond (is_own write.way) (Some want.at) (cond (is_inside_of (slice_get shapes write.layout) want.at) (Some want.at) None)
    at_of_want write want is inside = elim is.at [
      | inl there ↦ there ∙ sym (by_own (is_own write.way))
      | inr out ↦ absurd (both_ways (is_inside_of (slice_get shapes write.layout) want.at) (sym (ap (λ (l : ℕ). is_inside_of (slice_get shapes l) want.at) is.layout) ∙ out.0) inside)
    ]
      where
        by_own : (own : Bool) → cond own (Some want.at) (cond (is_inside_of (slice_get shapes write.layout) want.at) (Some want.at) None) ≡ Some want.at
        by_own true = refl
        by_own false = cond-true (is_inside_of (slice_get shapes write.layout) want.at) (Some want.at) None inside

    first_inside : (write : Write) (writes : List Write) → outside_among shapes at (write ∷ writes) ≡ None → (is_inside_of (slice_get shapes write.layout) write.at ≡ true) × (outside_among shapes at writes ≡ None)
    first_inside write writes none = by_test (is_inside_of (slice_get shapes write.layout) write.at) refl none
      where
        by_test : (b : Bool) → is_inside_of (slice_get shapes write.layout) write.at ≡ b → cond b (outside_among shapes at writes) (Some (WriteOutside write.stmt at)) ≡ None
            → (is_inside_of (slice_get shapes write.layout) write.at ≡ true) × (outside_among shapes at writes ≡ None)
        by_test true is rest = (is, rest)
        by_test false is rest = absurd (cc)

    -- if none is outside, what was made is the code of the writes
    pub located_made : (wants : List CodeWant) (made : List CodeWrite) → Wanted wants made → All (IsAtLoop at) made → outside_among shapes at (located domain at wants made) ≡ None
        → made ≡ map (code_write shapes) (located domain at wants made)
    located_made wants [] zip loop none = refl
    located_made wants (write ∷ writes) zip loop none = elim (cases_Bool (may_activate domain write)) [
      | inl may ↦ by_want wants (λ ws more inside. located_made ws writes more (All-tail (IsAtLoop at) write writes loop) inside)
          (subst (λ (ws : List CodeWrite). AllZip (IsWantOf shapes) wants ws) (kept (may_activate domain) write writes may) zip) may none
      | inr not ↦
          let split = step write writes wants false not in
          let rest = first_inside (write_at write at) (located domain at wants writes) (sym (ap (outside_among shapes at) split) ∙ none) in
          let own = (and_parts (is_own write.way) (walks domain write.layout) (not-false (is_own write.way && walks domain write.layout) not)).0 in
          let here = made_at write at (All-head (IsAtLoop at) write writes loop own ∙ sym (cond-true (is_own write.way) (Some at) (cond (is_inside_of (slice_get shapes write.layout) at) (Some at) None) own)) in
          ap (λ (w : CodeWrite). w ∷ writes) here
          ∙ ap (λ (ws : List CodeWrite). code_write shapes (write_at write at) ∷ ws)
          (located_made wants writes (subst (λ (ws : List CodeWrite). AllZip (IsWantOf shapes) wants ws) (dropped (may_activate domain) write writes not) zip) (All-tail (IsAtLoop at) write writes loop) rest.1)
          ∙ sym (ap (map (code_write shapes)) split)
    ]
      where
        by_want : (wants : List CodeWant) → ((ws : List CodeWant) → Wanted ws writes → outside_among shapes at (located domain at ws writes) ≡ None → writes ≡ map (code_write shapes) (located domain at ws writes))
            → AllZip (IsWantOf shapes) wants (write ∷ filter (may_activate domain) writes) → may_activate domain write ≡ true → outside_among shapes at (located domain at wants (write ∷ writes)) ≡ None
            → write ∷ writes ≡ map (code_write shapes) (located domain at wants (write ∷ writes))
        by_want [] back zip may none = absurd zip
        by_want (want ∷ wants) back zip may none =
            let split = step write writes (want ∷ wants) true may in
            let both = first_inside (write_at write want.at) (located domain at wants writes) (sym (ap (outside_among shapes at) split) ∙ none) in
            ap (λ (w : CodeWrite). w ∷ writes) (made_at write want.at (at_of_want write want zip.0 both.0))
            ∙ ap (λ (ws : List CodeWrite). code_write shapes (write_at write want.at) ∷ ws) (back wants zip.1 both.1)
            ∙ sym (ap (map (code_write shapes)) split)

  -- a write that may not activate is at the loop's coordinate, in the layout that it walks
  pub left_at_loop : (wants : List CodeWant) (writes : List CodeWrite) (write : Write) → Contains (located domain at wants writes) write → acts domain write ≡ false → (write.at ≡ at) × (walks domain write.layout ≡ true)
  left_at_loop wants [] write has out = absurd (contains_none write has)
  left_at_loop wants (first ∷ writes) write has out = elim (contains_cases write (write_at first (coord_of_write (may_activate domain first) wants at)) (located domain at (wants_left (may_activate domain first) wants) writes) has) [
    | inl same ↦
        let idle : may_activate domain first ≡ false = ap (acts domain) same ∙ out in (
          sym (ap (λ (w : Write). w.at) same) ∙ ap (λ (b : Bool). coord_of_write b wants at) idle,
          (and_parts (is_own write.way) (walks domain write.layout) (not-false (is_own write.way && walks domain write.layout) out)).1,
        )
    | inr later ↦ left_at_loop (wants_left (may_activate domain first) wants) writes write later out
  ]
