-- Reads: of the own cell, and where indices say.
use Rattle.std.proofs.Common.{◌≡◌, ℕ, ◌^◌, ◌<◌, Bool, true, false, not, ◌&&◌, ◌||◌, if◌then◌else◌, slice_get, List, [], ◌∷◌, map, length, Option, Some, None, Result, Ok, Err, IfOk, All, refl, sym, ap, subst, ◌∙◌, arith}
use Rattle.std.specs.List.{list_all}
use Rattle.std.proofs.lemmas.Bool.{and_parts, not-true}
use Rattle.std.proofs.lemmas.List.Elements.{All-nil, All-cons, All-head, All-tail, All-push}
use Rattle.sg_words.specs.declared.operators.Ty.{Ty}
use Rattle.sg_words.specs.declared.memory.Memory.{Memory}
use Rattle.sg_words.specs.WordLaws.{IsWord}
use Rattle.sg_words.specs.Words.{flag}
use Rattle.sg_coord.specs.declared.coord.Coord.{Coord}
use Rattle.sg_coord.specs.Coord.{is_inside, row_of}
use Rattle.sg_layout.specs.declared.shape.Shape.{Shape}
use Rattle.sg_layout.specs.Axes.{bounds_of_shape}
use Rattle.sg_layout.specs.Path.{offsets}
use Rattle.sg_flat.specs.declared.state.FlatState.{FlatState}
use Rattle.sg_flat.specs.declared.state.FlatLayout.{FlatLayout}
use Rattle.sg_flat.specs.declared.effects.Write.{Write}
use Rattle.sg_flat.specs.State as flat
use Rattle.sg_flat.specs.Words.{word_at}
use Rattle.sg_flat.specs.Kernel.{is_inside_of}
use Rattle.sg_types.specs.declared.typed.TypedExpr.{TypedExpr}
use Rattle.sg_types.specs.Values.{World, Moment, coord_of, own_write, value_or_own, read_word, expr_word}
use Rattle.sg_types.specs.Iterations.{part_words}
use Rattle.sg_types.specs.Expressions.{equals_some}
use Rattle.sg_types.specs.WellTyped.{axes_in}
use Rattle.sg_types.proofs.Uses.{value-Active, value-Read}
use Rattle.sg_ir.specs.declared.code.Inst.{Inst}
use Rattle.sg_ir.specs.declared.names.Names.{Names}
use Rattle.sg_ir.specs.Runs as ir
use Rattle.sg_ir.specs.Runs.{Seen, Place, Access, CodeWrite, Moved, at_of, cell_value, is_active_place, own_value, named_by, runs}
use Rattle.sg_ir.specs.Places.{place_at, place_of_coord}
use Rattle.sg_ir.specs.Named.{IsNamedAccess, AreNamed}
use Rattle.sg_ir.specs.Emits.{Computes, LeadsToPlace, Fetches}
use Rattle.sg_lower.specs.Lowered.{code_write}
use Rattle.sg_lower.specs.steps.Basis.{Basis, is_owned}
use Rattle.sg_lower.specs.steps.Fitting.{fits_owned, can_be_lowered, is_own_index, typed_active, typed_read}
use Rattle.sg_lower.specs.steps.Agreeing.{inside_or_none, IsWorld, IsPoint, seen_of, AgreesWithIteration, ShowsAll, Values, AllValues}
use Rattle.sg_flat.specs.Domain.{is_active}
use Rattle.sg_lower.proofs.Fitted.{fits-Active, fits-Read}
use Rattle.sg_lower.proofs.Simulating.{extends-trans, words_kept, agrees-kept, values-none, values-computed}
use Rattle.sg_lower.proofs.OwnCells.{own_told, own_small, named_words}

words_small : (regs : ℕ → ℕ) (list words : List ℕ) → map regs list ≡ words → All IsWord words → All (λ r. regs r < 2 ^ 32) list
words_small regs [] words is small = All-nil (λ r. regs r < 2 ^ 32)
words_small regs (r ∷ list) words is small =
    let all : All IsWord (regs r ∷ map regs list) = subst (All IsWord) (sym is) small in
    All-cons (λ r. regs r < 2 ^ 32) r list (All-head IsWord (regs r) (map regs list) all) (words_small regs list (map regs list) refl (All-tail IsWord (regs r) (map regs list) all))

-- a value outside is 0
value_inside : (shapes : List Shape) (state : FlatState) (seen_at : Coord) (layout place : ℕ) (at : Coord)
    → cell_value (record { shapes = shapes; state = state; at = seen_at }) layout place (inside_or_none shapes layout at) ≡ flat.value_of shapes state layout place at
value_inside shapes state seen_at layout place at = by_shape (slice_get shapes layout) refl
  where
    by_test : (shape : Shape) → slice_get shapes layout ≡ Some shape → (b : Bool) → is_inside (bounds_of_shape shape) at ≡ b
        → cell_value (record { shapes = shapes; state = state; at = seen_at }) layout place (if b then Some at else None) ≡ flat.value_of shapes state layout place at
    by_test shape there true inside = refl
    by_test shape there false inside = sym (ap (λ (it : Option Shape). flat.value_or_zero it (slice_get state.layouts layout) place at) there ∙ outside (slice_get state.layouts layout))
      where
        outside : (layouts : Option FlatLayout) → flat.value_or_zero (Some shape) layouts place at ≡ 0
        outside None = refl
        outside (Some it) = ap (λ (b : Bool). if b then word_at (flat.words_or_none (slice_get it.fields place)) (row_of (bounds_of_shape shape) at) else 0) inside

    by_shape : (found : Option Shape) → slice_get shapes layout ≡ found
        → cell_value (record { shapes = shapes; state = state; at = seen_at }) layout place (inside_or_none shapes layout at) ≡ flat.value_of shapes state layout place at
    by_shape None there =
        ap (λ (it : Option Shape). cell_value (record { shapes = shapes; state = state; at = seen_at }) layout place (if is_inside_of it at then Some at else None)) there
        ∙ sym (ap (λ (it : Option Shape). flat.value_or_zero it (slice_get state.layouts layout) place at) there)
    by_shape (Some shape) there =
        ap (λ (it : Option Shape). cell_value (record { shapes = shapes; state = state; at = seen_at }) layout place (if is_inside_of it at then Some at else None)) there
        ∙ by_test shape there (is_inside (bounds_of_shape shape) at) refl

-- what is outside isn't active
active_inside : (shapes : List Shape) (state : FlatState) (seen_at : Coord) (layout : ℕ) (at : Coord) → at_of shapes (place_at shapes layout at) ≡ inside_or_none shapes layout at
    → (is_inside_of (slice_get shapes layout) at ≡ false → is_active state layout at ≡ false)
    → is_active_place (record { shapes = shapes; state = state; at = seen_at }) (at_of shapes (place_at shapes layout at)) (place_at shapes layout at) ≡ is_active state layout at
active_inside shapes state seen_at layout at reached outside =
    ap (λ (found : Option Coord). is_active_place seen found (place_at shapes layout at)) reached ∙ by_shape (slice_get shapes layout) refl
  where
    seen : Seen
    seen = record { shapes = shapes; state = state; at = seen_at }

    by_test : (shape : Shape) → slice_get shapes layout ≡ Some shape → (b : Bool) → is_inside (bounds_of_shape shape) at ≡ b
        → is_active_place seen (if b then Some at else None) (if b then Some (record { layout = layout; path = offsets shape.nodes at }) else None) ≡ is_active state layout at
    by_test shape there true inside = refl
    by_test shape there false inside = sym (outside (ap (λ (it : Option Shape). is_inside_of it at) there ∙ inside))

    by_shape : (found : Option Shape) → slice_get shapes layout ≡ found
        → is_active_place seen (if is_inside_of found at then Some at else None) (place_of_coord layout at found) ≡ is_active state layout at
    by_shape None there = sym (outside (ap (λ (it : Option Shape). is_inside_of it at) there))
    by_shape (Some shape) there = by_test shape there (is_inside (bounds_of_shape shape) at) refl

flag_small : (b : Bool) → IsWord (flag b)
flag_small true = omega arith
flag_small false = omega arith

module _ (basis : Basis) where
  -- what a read of an owned field keeps to
  pub owned_named : (layout place : ℕ) (index : List TypedExpr) → is_owned basis.owned layout place ≡ true → fits_owned basis layout place (is_own_index basis index) ≡ true
      → (basis.slicing ≡ false) × (is_own_index basis index ≡ true)
  owned_named layout place index owned h =
      let p : (not basis.slicing && is_own_index basis index) ≡ true = subst (λ (b : Bool). (not b || (not basis.slicing && is_own_index basis index)) ≡ true) owned h in
      let parts = and_parts (not basis.slicing) (is_own_index basis index) p in
      (not-true basis.slicing parts.0, parts.1)

  pub own_coord : (world : World) (now : Moment) (moved : Moved) (at : Coord) (index : List TypedExpr) → IsPoint basis.vars at → AgreesWithIteration basis at now moved → is_own_index basis index ≡ true
      → coord_of (map (expr_word world now) index) ≡ at
  own_coord world now moved at index point agrees named =
      ap coord_of (named_words basis world now basis.vars (part_words at) point.parts agrees.loop 0 index named) ∙ point.whole

  pub own_read_value : (given : Ty) (layout place : ℕ) (index : List TypedExpr) (to : ℕ) (old new : Names) (a z : List Inst) → is_owned basis.owned layout place ≡ true
      → ((shapes : List Shape) → Computes shapes (λ seen now. own_value seen layout place now) to old new a z)
      → can_be_lowered basis (typed_read given layout place index) ≡ true → Values basis (typed_read given layout place index) to old new a z
  own_read_value given layout place index to old new a z owned computes h =
      let parts = and_parts (equals_some (axes_in basis.shapes layout) (length index)) (fits_owned basis layout place (is_own_index basis index) && list_all (can_be_lowered basis) index) (sym (fits-Read basis given layout place index) ∙ h) in
      let more = and_parts (fits_owned basis layout place (is_own_index basis index)) (list_all (can_be_lowered basis) index) parts.1 in
      let keeps = owned_named layout place index owned more.0 in
      values-computed basis [] [] (typed_read given layout place index) to old old new a a z (λ seen now. own_value seen layout place now) (values-none basis old a) (computes basis.shapes)
      (λ world is at point now moved shows.
      let agrees = shows.agrees in
      let value = value-Read world now given layout place index in
      let told : moved.writes ≡ map (code_write basis.shapes) now.writes = agrees.writes ∙ ap (λ (b : Bool). if b then [] else map (code_write basis.shapes) now.writes) keeps.0 in
      let here = own_coord world now moved at index point agrees keeps.1 in
      let cell = flat.value_of world.shapes world.state layout place at in
      let same : own_value (seen_of world at) layout place moved ≡ value_or_own (own_write layout place now.writes) cell =
      ap (λ (writes : List CodeWrite). ir.value_or_own (ir.own_write layout place writes) cell) told ∙ own_told basis.shapes layout place now.writes cell in
      let is_word : value_or_own (own_write layout place now.writes) cell ≡ expr_word world now (typed_read given layout place index) =
      ap (λ (c : Coord). value_or_own (own_write layout place now.writes) (flat.value_of world.shapes world.state layout place c)) (sym here) ∙ sym value in
      (same ∙ is_word, subst IsWord is_word (own_small layout place now.writes cell (agrees.small_writes keeps.0) (is.small layout place at))))

  -- an access after its place: what the registers hold, and that the place is that of the coordinate that they name
  pub record Placed (at : Coord) (now : Moment) (moved : Moved) (regs words : List ℕ) (layout p : ℕ) : Type 0 where
    pub shows : ShowsAll basis at now moved regs words
    pub place : moved.places p ≡ place_at basis.shapes layout (coord_of words)
    pub root : moved.roots p ≡ layout

  pub placed : (exprs : List TypedExpr) (regs : List ℕ) (layout p : ℕ) (old mid new : Names) (a b c : List Inst) → AllValues basis exprs regs old mid a b
      → LeadsToPlace basis.shapes regs (λ seen now. place_at basis.shapes layout (named_by regs now)) layout p mid new b c
      → (world : World) → IsWorld basis.shapes world → (at : Coord) → IsPoint basis.vars at → (now : Moment) (start : Moved) → AgreesWithIteration basis at now (runs (seen_of world at) a start)
      → Placed at now (runs (seen_of world at) c start) regs (map (expr_word world now) exprs) layout p
  placed exprs regs layout p old mid new a b c all leads world is at point now start agrees =
      let seen = seen_of world at in
      let shows = all.values world is at point now start agrees in
      let keeps = leads.extends.keeps seen is.shapes_are start in
      let kept = words_kept (length mid.regs) mid.places (runs seen b start) (runs seen c start) regs all.named keeps in
      record {
        shows = record {
          agrees = agrees-kept basis at now (length mid.regs) mid.places (runs seen b start) (runs seen c start) keeps (subst (AreNamed basis.shapes) (sym (leads.quiet seen is.shapes_are start)) shows.agrees.named) shows.agrees;
          hold = kept ∙ shows.hold;
          small = shows.small;
        };
        place = leads.value seen is.shapes_are start (words_small (runs seen b start).regs regs (map (expr_word world now) exprs) shows.hold shows.small)
            ∙ ap (λ (words : List ℕ). place_at basis.shapes layout (coord_of words)) shows.hold;
        root = leads.rooted seen is.shapes_are start;
      }

  -- an access that means its coordinate
  pub access_named : (at : Coord) (now : Moment) (moved : Moved) (regs words : List ℕ) (layout p : ℕ) → Placed at now moved regs words layout p
      → IsNamedAccess basis.shapes (record { asks = false; layout = layout; place = moved.places p; at = named_by regs moved })
  access_named at now moved regs words layout p it = it.place ∙ ap (λ (words : List ℕ). place_at basis.shapes layout (coord_of words)) (sym it.shows.hold)

  -- a question means its coordinate too
  pub ask_named : (at : Coord) (now : Moment) (moved : Moved) (regs words : List ℕ) (layout p : ℕ) → Placed at now moved regs words layout p
      → IsNamedAccess basis.shapes (record { asks = true; layout = moved.roots p; place = moved.places p; at = named_by regs moved })
  ask_named at now moved regs words layout p it = access_named at now moved regs words layout p it ∙ ap (λ (l : ℕ). place_at basis.shapes l (named_by regs moved)) (sym it.root)

  pub active_value : (given : Ty) (layout : ℕ) (index : List TypedExpr) (regs : List ℕ) (p to : ℕ) (old m n new : Names) (a b c z : List Inst)
      → (list_all (can_be_lowered basis) index ≡ true → AllValues basis index regs old m a b)
      → length regs ≡ length index → (equals_some (axes_in basis.shapes layout) (length regs) ≡ true → LeadsToPlace basis.shapes regs (λ seen now. place_at basis.shapes layout (named_by regs now)) layout p m n b c)
      → ((shapes : List Shape) → Fetches shapes (λ seen now. flag (is_active_place seen (at_of seen.shapes (now.places p)) (now.places p))) (λ now. record { asks = true; layout = now.roots p; place = now.places p; at = named_by regs now }) to n new c z)
      → can_be_lowered basis (typed_active given layout index) ≡ true → Values basis (typed_active given layout index) to old new a z
  active_value given layout index regs p to old m n new a b c z has count to_place fetches h =
      let parts = and_parts (equals_some (axes_in basis.shapes layout) (length index)) (list_all (can_be_lowered basis) index) (sym (fits-Active basis given layout index) ∙ h) in
      let all = has parts.1 in
      let leads = to_place (ap (equals_some (axes_in basis.shapes layout)) count ∙ parts.0) in
      let fetched = fetches basis.shapes in
      record {
        extends = extends-trans basis old n new a c z (extends-trans basis old m n a b c all.extends leads.extends) fetched.extends;
        named = fetched.named;
        value = λ world is at point now start agrees.
            let seen = seen_of world at in
            let it = placed index regs layout p old m n a b c all leads world is at point now start agrees in
            let reached = runs seen c start in
            let words = map (expr_word world now) index in
            let there : is_active_place seen (at_of seen.shapes (reached.places p)) (reached.places p) ≡ is_active world.state layout (coord_of words) =
            ap (λ (found : Option Place). is_active_place seen (at_of seen.shapes found) found) (it.place ∙ ap (λ (shapes : List Shape). place_at shapes layout (coord_of words)) (sym is.shapes_are))
            ∙ active_inside world.shapes world.state at layout (coord_of words) (is.reached layout (coord_of words)) (is.inside layout (coord_of words)) in
            record {
              agrees = agrees-kept basis at now (length n.regs) n.places reached (runs seen z start) (fetched.extends.keeps seen is.shapes_are start)
                  (subst (AreNamed basis.shapes) (sym (fetched.accessed seen is.shapes_are start)) (All-push (IsNamedAccess basis.shapes) reached.accesses (record { asks = true; layout = reached.roots p; place = reached.places p; at = named_by regs reached }) it.shows.agrees.named (ask_named at now reached regs words layout p it))) it.shows.agrees;
              holds = fetched.value seen is.shapes_are start ∙ (ap flag there ∙ sym (value-Active world now given layout index));
              small = subst IsWord (sym (value-Active world now given layout index)) (flag_small (is_active world.state layout (coord_of words)));
            };
      }

  pub read_value : (given : Ty) (layout place : ℕ) (index : List TypedExpr) (regs : List ℕ) (p to : ℕ) (old m n new : Names) (a b c z : List Inst) → is_owned basis.owned layout place ≡ false
      → (list_all (can_be_lowered basis) index ≡ true → AllValues basis index regs old m a b)
      → length regs ≡ length index → (equals_some (axes_in basis.shapes layout) (length regs) ≡ true → LeadsToPlace basis.shapes regs (λ seen now. place_at basis.shapes layout (named_by regs now)) layout p m n b c)
      → ((shapes : List Shape) → Fetches shapes (λ seen now. cell_value seen layout place (at_of seen.shapes (now.places p))) (λ now. record { asks = false; layout = layout; place = now.places p; at = named_by regs now }) to n new c z)
      → can_be_lowered basis (typed_read given layout place index) ≡ true → Values basis (typed_read given layout place index) to old new a z
  read_value given layout place index regs p to old m n new a b c z unowned has count to_place fetches h =
      let parts = and_parts (equals_some (axes_in basis.shapes layout) (length index)) (fits_owned basis layout place (is_own_index basis index) && list_all (can_be_lowered basis) index) (sym (fits-Read basis given layout place index) ∙ h) in
      let more = and_parts (fits_owned basis layout place (is_own_index basis index)) (list_all (can_be_lowered basis) index) parts.1 in
      let all = has more.1 in
      let leads = to_place (ap (equals_some (axes_in basis.shapes layout)) count ∙ parts.0) in
      let fetched = fetches basis.shapes in
      record {
        extends = extends-trans basis old n new a c z (extends-trans basis old m n a b c all.extends leads.extends) fetched.extends;
        named = fetched.named;
        value = λ world is at point now start agrees.
            let seen = seen_of world at in
            let it = placed index regs layout p old m n a b c all leads world is at point now start agrees in
            let reached = runs seen c start in
            let words = map (expr_word world now) index in
            let value = value-Read world now given layout place index in
            let none : read_word world now layout place (coord_of words) ≡ flat.value_of world.shapes world.state layout place (coord_of words) =
            ap (λ (found : Option Write). value_or_own found (flat.value_of world.shapes world.state layout place (coord_of words))) (it.shows.agrees.others layout place unowned) in
            let cell : cell_value seen layout place (at_of seen.shapes (reached.places p)) ≡ flat.value_of world.shapes world.state layout place (coord_of words) =
            ap (λ (found : Option Place). cell_value seen layout place (at_of seen.shapes found)) (it.place ∙ ap (λ (shapes : List Shape). place_at shapes layout (coord_of words)) (sym is.shapes_are))
            ∙ (ap (λ (found : Option Coord). cell_value seen layout place found) (is.reached layout (coord_of words))
            ∙ value_inside world.shapes world.state at layout place (coord_of words)) in
            let is_word : flat.value_of world.shapes world.state layout place (coord_of words) ≡ expr_word world now (typed_read given layout place index) = sym none ∙ sym value in
            record {
              agrees = agrees-kept basis at now (length n.regs) n.places reached (runs seen z start) (fetched.extends.keeps seen is.shapes_are start)
                  (subst (AreNamed basis.shapes) (sym (fetched.accessed seen is.shapes_are start)) (All-push (IsNamedAccess basis.shapes) reached.accesses (record { asks = false; layout = layout; place = reached.places p; at = named_by regs reached }) it.shows.agrees.named (access_named at now reached regs words layout p it))) it.shows.agrees;
              holds = fetched.value seen is.shapes_are start ∙ (cell ∙ is_word);
              small = subst IsWord is_word (is.small layout place (coord_of words));
            };
      }

-- the same of results
module _ (basis : Basis) (old new : Names) (a z : List Inst) where
  pub own_read_ok : (result : Result ℕ Memory) (given : Ty) (layout place : ℕ) (index : List TypedExpr) → is_owned basis.owned layout place ≡ true
      → IfOk result (λ to. (shapes : List Shape) → Computes shapes (λ seen now. own_value seen layout place now) to old new a z)
      → IfOk result (λ to. can_be_lowered basis (typed_read given layout place index) ≡ true → Values basis (typed_read given layout place index) to old new a z)
  own_read_ok (Ok to) given layout place index owned computes = own_read_value basis given layout place index to old new a z owned computes
  own_read_ok (Err e) given layout place index owned computes = tt

  pub read_ok : (result : Result ℕ Memory) (given : Ty) (layout place : ℕ) (index : List TypedExpr) (regs : List ℕ) (p : ℕ) (m n : Names) (b c : List Inst) → is_owned basis.owned layout place ≡ false
      → (list_all (can_be_lowered basis) index ≡ true → AllValues basis index regs old m a b)
      → length regs ≡ length index → (equals_some (axes_in basis.shapes layout) (length regs) ≡ true → LeadsToPlace basis.shapes regs (λ seen now. place_at basis.shapes layout (named_by regs now)) layout p m n b c)
      → IfOk result (λ to. (shapes : List Shape) → Fetches shapes (λ seen now. cell_value seen layout place (at_of seen.shapes (now.places p))) (λ now. record { asks = false; layout = layout; place = now.places p; at = named_by regs now }) to n new c z)
      → IfOk result (λ to. can_be_lowered basis (typed_read given layout place index) ≡ true → Values basis (typed_read given layout place index) to old new a z)
  read_ok (Ok to) given layout place index regs p m n b c unowned has count leads fetches = read_value basis given layout place index regs p to old m n new a b c z unowned has count leads fetches
  read_ok (Err e) given layout place index regs p m n b c unowned has count leads fetches = tt

  pub active_ok : (result : Result ℕ Memory) (given : Ty) (layout : ℕ) (index : List TypedExpr) (regs : List ℕ) (p : ℕ) (m n : Names) (b c : List Inst)
      → (list_all (can_be_lowered basis) index ≡ true → AllValues basis index regs old m a b)
      → length regs ≡ length index → (equals_some (axes_in basis.shapes layout) (length regs) ≡ true → LeadsToPlace basis.shapes regs (λ seen now. place_at basis.shapes layout (named_by regs now)) layout p m n b c)
      → IfOk result (λ to. (shapes : List Shape) → Fetches shapes (λ seen now. flag (is_active_place seen (at_of seen.shapes (now.places p)) (now.places p))) (λ now. record { asks = true; layout = now.roots p; place = now.places p; at = named_by regs now }) to n new c z)
      → IfOk result (λ to. can_be_lowered basis (typed_active given layout index) ≡ true → Values basis (typed_active given layout index) to old new a z)
  active_ok (Ok to) given layout index regs p m n b c has count leads fetches = active_value basis given layout index regs p to old m n new a b c z has count leads fetches
  active_ok (Err e) given layout index regs p m n b c has count leads fetches = tt
