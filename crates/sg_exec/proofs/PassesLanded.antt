-- What passes land and the last own writes of all iterations leave what all writes leave.
use Rattle.std.proofs.Common.{◌≡◌, ℕ, zero, suc, ◌<◌, Bool, true, false, cond, inl, inr, ◌⊎◌, List, [], ◌∷◌, ◌++◌, map, length, Some, refl, sym, ap, ◌∙◌, subst, arith}
use Rattle.std.specs.Prelude.{slice_get, Contains}
use Rattle.std.specs.List.{flat_map, AllZip}
use Rattle.std.proofs.lemmas.Bool.{cases_eq, cond-false, and_parts}
use Rattle.std.proofs.lemmas.List.{append-nil}
use Rattle.std.proofs.lemmas.List.Elements.{Contains-append_left, Contains-append_right, Contains-append_cases}
use Rattle.std.proofs.lemmas.Option.{same_Some}
use Rattle.sg_words.specs.declared.operators.Ty.{Ty}
use Rattle.sg_words.specs.declared.operators.AccOp.{AccOp}
use Rattle.sg_words.proofs.Uses.{contains_none, contains_head, contains_rest, contains_cases, from_filter}
use Rattle.sg_coord.specs.declared.coord.Coord.{Coord}
use Rattle.sg_coord.specs.Bounds.{Bounds}
use Rattle.sg_layout.specs.declared.shape.Shape.{Shape}
use Rattle.sg_flat.specs.declared.effects.Way.{Way}
use Rattle.sg_flat.specs.declared.effects.Way.TheVariants.{Own, Acc}
use Rattle.sg_flat.specs.declared.effects.Write.{Write}
use Rattle.sg_flat.specs.declared.effects.Turn.{Turn}
use Rattle.sg_flat.specs.declared.state.FlatLayout.{FlatLayout}
use Rattle.sg_flat.specs.Effects.{landed, is_to, writes_of, writes_to}
use Rattle.sg_store.specs.StoreWords.{StoreWords}
use Rattle.sg_store.specs.StandsFor.{StandsFor}
use Rattle.sg_ir.specs.Runs.{is_own}
use Rattle.sg_ir.specs.Apt.{Use, Writes}
use Rattle.sg_accum.specs.declared.seat.AccSeat.{AccSeat}
use Rattle.sg_exec.specs.declared.results.shared.Accumulated.{Accumulated}
use Rattle.sg_exec.specs.declared.results.shared.Owned.{Owned}
use Rattle.sg_exec.specs.Standing.{shapes_of}
use Rattle.sg_exec.specs.steps.Landing.{AreActive, Lands}
use Rattle.sg_exec.specs.steps.Passes.{HasPass, IsAmong, HaveFields, to_field, into_field, passed}
use Rattle.sg_exec.proofs.SumLanded.{parts_to, to_same, to_other}
use Rattle.sg_exec.proofs.LastOwn.{kept_own, kept_among, IsOwnField}
use Rattle.sg_exec.proofs.KeptOwn.{filter_both, landed_both, kept_leaves}
use Rattle.sg_exec.proofs.Regrouped.{lands_as}

same_or : (a b c d : ℕ) → ((a ≡ b) × (c ≡ d)) ⊎ (a ≡ b → c ≡ d → ⊥)
same_or a b c d = elim (cases_eq a b) [
  | inr other ↦ inr (λ same there. other same)
  | inl same ↦ elim (cases_eq c d) [
    | inr other ↦ inr (λ same' there. other there)
    | inl there ↦ inl (same, there)
  ]
]

-- ---- lists made of lists

pub from_flat : {X Y : Type 0} (f : X → List Y) (xs : List X) (y : Y) → Contains (flat_map f xs) y → (x : X) × (Contains xs x × Contains (f x) y)
from_flat f [] y has = absurd (contains_none y has)
from_flat {X} {Y} f (x ∷ xs) y has = by (λ later. from_flat f xs y later) (Contains-append_cases (f x) (flat_map f xs) y has)
  where
    by : (Contains (flat_map f xs) y → (z : X) × (Contains xs z × Contains (f z) y)) → Contains (f x) y ⊎ Contains (flat_map f xs) y → (z : X) × (Contains (x ∷ xs) z × Contains (f z) y)
    by rest (inl here) = (x, (contains_head x x xs refl, here))
    by rest (inr later) = let is = rest later in (is.0, (contains_rest is.0 x xs is.1.0, is.1.1))

pub into_flat : {X Y : Type 0} (f : X → List Y) (xs : List X) (x : X) (y : Y) → Contains xs x → Contains (f x) y → Contains (flat_map f xs) y
into_flat f [] x y has there = absurd (contains_none x has)
into_flat {X} {Y} f (z ∷ xs) x y has there = by (λ later. into_flat f xs x y later there) (contains_cases x z xs has)
  where
    by : (Contains xs x → Contains (flat_map f xs) y) → (z ≡ x) ⊎ Contains xs x → Contains (f z ++ flat_map f xs) y
    by rest (inl same) = Contains-append_left (f z) (flat_map f xs) y (subst (λ (v : X). Contains (f v) y) (sym same) there)
    by rest (inr later) = Contains-append_right (f z) (flat_map f xs) y (rest later)

pub turns_writes : (turn : Coord → Turn) (points : List Coord) → writes_of (map turn points) ≡ flat_map (λ (at : Coord). (turn at).writes) points
turns_writes turn [] = refl
turns_writes turn (at ∷ points) = ap (λ (ws : List Write). (turn at).writes ++ ws) (turns_writes turn points)

-- ---- a field to which no write goes

pub none_to_field : (bounds : Bounds) (layout place row : ℕ) (writes : List Write) → ((write : Write) → Contains writes write → write.layout ≡ layout → write.place ≡ place → ⊥) → writes_to bounds layout place row writes ≡ []
none_to_field bounds layout place row [] none = refl
none_to_field bounds layout place row (write ∷ writes) none =
    by_test (is_to bounds layout place row write) refl ∙ none_to_field bounds layout place row writes (λ w has. none w (contains_rest w write writes has))
  where
    by_test : (b : Bool) → is_to bounds layout place row write ≡ b → cond (is_to bounds layout place row write) (write ∷ writes_to bounds layout place row writes) (writes_to bounds layout place row writes) ≡ writes_to bounds layout place row writes
    by_test true e = let parts = parts_to bounds layout place row write e in absurd (none write (contains_head write write writes refl) parts.0 parts.1.0)
    by_test false e = cond-false (is_to bounds layout place row write) (write ∷ writes_to bounds layout place row writes) (writes_to bounds layout place row writes) e

-- ---- what passes land

module _ (layout place : ℕ) where
  later_pass : (it : Accumulated) (accumulated : List Accumulated) → HasPass accumulated layout place → HasPass (it ∷ accumulated) layout place
  later_pass it accumulated has = record { number = suc has.number; it = has.it; there = has.there; layout_is = has.layout_is; field_is = has.field_is }

  rest_pass : (it : Accumulated) (accumulated : List Accumulated) → HasPass (it ∷ accumulated) layout place → (it.layout ≡ layout → it.field ≡ place → ⊥) → HasPass accumulated layout place
  rest_pass it accumulated has other = by has.number has.there
    where
      by : (n : ℕ) → slice_get (it ∷ accumulated) n ≡ Some has.it → HasPass accumulated layout place
      by zero is = let same : it ≡ has.it = same_Some _ _ is in
          absurd (other (ap (λ (a : Accumulated). a.layout) same ∙ has.layout_is) (ap (λ (a : Accumulated). a.field) same ∙ has.field_is))
      by (suc n) is = record { number = n; it = has.it; there = is; layout_is = has.layout_is; field_is = has.field_is }

  no_first : HasPass [] layout place → ⊥
  no_first has = let none = has.there in absurd (cc (none))

  pass_or : (accumulated : List Accumulated) → HasPass accumulated layout place ⊎ (HasPass accumulated layout place → ⊥)
  pass_or [] = inr no_first
  pass_or (it ∷ accumulated) = elim (same_or it.layout layout it.field place) [
    | inl same ↦ inl (record { number = 0; it = it; there = refl; layout_is = same.0; field_is = same.1 })
    | inr other ↦ elim (pass_or accumulated) [
      | inl has ↦ inl (later_pass it accumulated has)
      | inr none ↦ inr (λ has. none (rest_pass it accumulated has other))
    ]
  ]

  among_or : (owned : List Owned) → IsAmong layout place owned ⊎ (IsAmong layout place owned → ⊥)
  among_or [] = inr (λ is. contains_none is.0 is.1.0)
  among_or (own ∷ owned) = elim (same_or own.layout layout own.field place) [
    | inl same ↦ inl (own, (contains_head own own owned refl, same))
    | inr other ↦ elim (among_or owned) [
      | inl is ↦ inl (is.0, (contains_rest is.0 own owned is.1.0, is.1.1))
      | inr none ↦ inr (λ is. elim (contains_cases is.0 own owned is.1.0) [
        | inl same ↦ other (ap (λ (o : Owned). o.layout) same ∙ is.1.1.0) (ap (λ (o : Owned). o.field) same ∙ is.1.1.1)
        | inr later ↦ none (is.0, (later, is.1.1))
      ])
    ]
  ]

  module _ (bounds : Bounds) (row : ℕ) (writes : List Write) where
    abbrev goes : List Write → List Write
    goes ws = writes_to bounds layout place row ws

    no_pass : (accumulated : List Accumulated) → (HasPass accumulated layout place → ⊥) → writes_to bounds layout place row (passed accumulated writes) ≡ []
    no_pass [] none = refl
    no_pass (it ∷ accumulated) none =
        filter_both (is_to bounds layout place row) (passed accumulated writes) (into_field it.layout it.field writes)
        ∙ ap (λ (ws : List Write). ws ++ writes_to bounds layout place row (into_field it.layout it.field writes)) (no_pass accumulated (λ has. none (later_pass it accumulated has)))
        ∙ to_other bounds it.layout it.field layout place row writes (λ same there. none (record { number = 0; it = it; there = refl; layout_is = sym same; field_is = sym there }))

    at_pass : (accumulated : List Accumulated)
        → ((j k : ℕ) (it other : Accumulated) → slice_get accumulated j ≡ Some it → slice_get accumulated k ≡ Some other → it.layout ≡ other.layout → it.field ≡ other.field → j ≡ k)
        → HasPass accumulated layout place → writes_to bounds layout place row (passed accumulated writes) ≡ writes_to bounds layout place row writes
    at_pass [] apart has = absurd (no_first has)
    at_pass (it ∷ accumulated) apart has =
        filter_both (is_to bounds layout place row) (passed accumulated writes) (into_field it.layout it.field writes)
        ∙ elim (same_or it.layout layout it.field place) [
          | inl same ↦ ap (λ (ws : List Write). ws ++ writes_to bounds layout place row (into_field it.layout it.field writes))
              (no_pass accumulated (λ has'. let no = apart 0 (suc has'.number) it has'.it refl has'.there (same.0 ∙ sym has'.layout_is) (same.1 ∙ sym has'.field_is) in omega (arith, no)))
              ∙ ap (λ (l : ℕ). writes_to bounds layout place row (into_field l it.field writes)) same.0
              ∙ ap (λ (f : ℕ). writes_to bounds layout place row (into_field layout f writes)) same.1
              ∙ to_same bounds layout place row writes
          | inr other ↦ ap (λ (ws : List Write). ws ++ writes_to bounds layout place row (into_field it.layout it.field writes))
              (at_pass accumulated (λ j k a b at also l f. let e = apart (suc j) (suc k) a b at also l f in omega (arith, e)) (rest_pass it accumulated has other))
              ∙ ap (λ (ws : List Write). writes_to bounds layout place row writes ++ ws) (to_other bounds it.layout it.field layout place row writes (λ same there. other (sym same) (sym there)))
              ∙ append-nil (writes_to bounds layout place row writes)
        ]

  -- own writes, iteration after iteration
  own_turns : (bounds : Bounds) (row : ℕ) (ty : Ty) (owned : List Owned) (f : Coord → List Write) (points : List Coord) (word : ℕ)
      → ((at : Coord) → Contains points at → IsOwnField layout place at (f at)) → IsAmong layout place owned
      → landed ty word (writes_to bounds layout place row (flat_map (λ (at : Coord). kept_own owned (f at)) points)) ≡ landed ty word (writes_to bounds layout place row (flat_map f points))
  own_turns bounds row ty owned f [] word own among = refl
  own_turns bounds row ty owned f (at ∷ points) word own among =
      let kept = flat_map (λ (x : Coord). kept_own owned (f x)) points in
      let all = flat_map f points in
      ap (landed ty word) (filter_both (is_to bounds layout place row) (kept_own owned (f at)) kept)
      ∙ landed_both ty word (writes_to bounds layout place row (kept_own owned (f at))) (writes_to bounds layout place row kept)
      ∙ ap (λ (w : ℕ). landed ty w (writes_to bounds layout place row kept)) (kept_leaves bounds layout place at ty (f at) (own at (contains_head at at points refl)) owned row word among)
      ∙ own_turns bounds row ty owned f points (landed ty word (writes_to bounds layout place row (f at))) (λ x has. own x (contains_rest x at points has)) among
      ∙ sym (ap (landed ty word) (filter_both (is_to bounds layout place row) (f at) all) ∙ landed_both ty word (writes_to bounds layout place row (f at)) (writes_to bounds layout place row all))

-- ---- a store and its layout

store_of : (stores : List StoreWords) (i : ℕ) (shape : Shape) → slice_get (shapes_of stores) i ≡ Some shape → (store : StoreWords) × ((slice_get stores i ≡ Some store) × (store.shape ≡ shape))
store_of [] i shape is = absurd (cc (is))
store_of (store ∷ stores) zero shape is = (store, (refl, same_Some _ _ is))
store_of (store ∷ stores) (suc i) shape is = store_of stores i shape is

stand_at : (stores : List StoreWords) (flats : List FlatLayout) (i : ℕ) (store : StoreWords) → AllZip StandsFor stores flats → slice_get stores i ≡ Some store → (flat : FlatLayout) × ((slice_get flats i ≡ Some flat) × StandsFor store flat)
stand_at [] flats i store stand is = absurd (cc (is))
stand_at (first ∷ stores) [] i store stand is = absurd stand
stand_at (first ∷ stores) (flat ∷ flats) zero store stand is = (flat, (refl, subst (λ (s : StoreWords). StandsFor s flat) (same_Some _ _ is) stand.0))
stand_at (first ∷ stores) (flat ∷ flats) (suc i) store stand is = stand_at stores flats i store stand.1 is

way_or : (way : Way) → (way ≡ Own) ⊎ ((op : AccOp) × (way ≡ Acc op))
way_or Own = inl refl
way_or (Acc op) = inr (op, refl)

own_is_no_acc : (op : AccOp) (way : Way) → is_own way ≡ true → way ≡ Acc op → ⊥
own_is_no_acc op way own acc = let no : true ≡ false = sym own ∙ ap is_own acc in absurd (cc (no))

-- ---- the whole

module _ (stores : List StoreWords) (uses : List Use) (accumulated : List Accumulated) (seats : List AccSeat) (owned : List Owned) (f : Coord → List Write) (points : List Coord) (have : HaveFields stores uses accumulated seats owned)
    (one_way : (layout field : ℕ) (way other : Way) → Contains uses (Writes layout field way) → Contains uses (Writes layout field other) → way ≡ other)
    (is_used : (write : Write) → Contains (flat_map f points) write → Contains uses (Writes write.layout write.place write.way))
    (own_at : (at : Coord) → Contains points at → (write : Write) → Contains (f at) write → is_own write.way ≡ true → write.at ≡ at) where
  abbrev all : List Write
  all = flat_map f points

  abbrev kept_all : List Write
  kept_all = flat_map (λ (at : Coord). kept_own owned (f at)) points

  -- each write to a pass's field is by its operator
  pub acc_ways : (k : ℕ) (it : Accumulated) → slice_get accumulated k ≡ Some it → (write : Write) → Contains (flat_map f points) write → write.layout ≡ it.layout → write.place ≡ it.field → write.way ≡ Acc it.op
  acc_ways k it at write has layouts fields =
      one_way it.layout it.field write.way (Acc it.op)
      (subst (λ (l : ℕ). Contains uses (Writes l it.field write.way)) layouts (subst (λ (p : ℕ). Contains uses (Writes write.layout p write.way)) fields (is_used write has)))
      (have.used k it at)

  -- what is kept is an own write of an iteration
  kept_from : (write : Write) → Contains (flat_map (λ (at : Coord). kept_own owned (f at)) points) write → Contains (flat_map f points) write × (is_own write.way ≡ true)
  kept_from write has =
      let turn = from_flat (λ (at : Coord). kept_own owned (f at)) points write has in
      let is = kept_among owned (f turn.0) write turn.1.1 in
      (into_flat f points turn.0 write turn.1.0 is.1.0, (and_parts (is_own write.way) _ is.1.1).0)

  module _ (flats : List FlatLayout) (stand : AllZip StandsFor stores flats) (active : AreActive flats (flat_map f points)) (layout place : ℕ) (shape : Shape) (there : slice_get (shapes_of stores) layout ≡ Some shape) (field : place < length shape.fields) where
    -- without a pass all writes to a field are own
    all_own : (HasPass accumulated layout place → ⊥) → (write : Write) → Contains (flat_map f points) write → write.layout ≡ layout → write.place ≡ place → write.way ≡ Own
    all_own none write has layouts fields = elim (way_or write.way) [
      | inl own ↦ own
      | inr acc ↦ absurd (none (have.each layout place acc.0
          (subst (λ (w : Way). Contains uses (Writes layout place w)) acc.1 (subst (λ (l : ℕ). Contains uses (Writes l place write.way)) layouts (subst (λ (p : ℕ). Contains uses (Writes write.layout p write.way)) fields (is_used write has))))
          (let store = store_of stores layout shape there in
          let flat = stand_at stores flats layout store.0 stand store.1.0 in
          record {
            store = store.0;
            there = store.1.0;
            field_there = subst (λ (s : Shape). place < length s.fields) (sym store.1.1) field;
            flat = flat.0;
            stands = flat.1.1;
            at = write.at;
            active = active layout flat.0 write flat.1.0 has layouts;
          })))
    ]

    own_field : (HasPass accumulated layout place → ⊥) → (at : Coord) → Contains points at → IsOwnField layout place at (f at)
    own_field none at has = record {
      ways = λ write is layouts fields. all_own none write (into_flat f points at write has is) layouts fields;
      there = λ write is own. own_at at has write is own;
    }

    module _ (bounds : Bounds) (row word : ℕ) (ty : Ty) where
      abbrev goes_to : List Write → List Write
      goes_to ws = writes_to bounds layout place row ws

      split : landed ty word (writes_to bounds layout place row (passed accumulated (flat_map f points) ++ kept_all))
          ≡ landed ty (landed ty word (writes_to bounds layout place row (passed accumulated (flat_map f points)))) (writes_to bounds layout place row kept_all)
      split =
          ap (landed ty word) (filter_both (is_to bounds layout place row) (passed accumulated (flat_map f points)) kept_all)
          ∙ landed_both ty word (writes_to bounds layout place row (passed accumulated (flat_map f points))) (writes_to bounds layout place row kept_all)

      -- a field with a pass
      with_pass : HasPass accumulated layout place → landed ty word (writes_to bounds layout place row (passed accumulated (flat_map f points) ++ kept_all)) ≡ landed ty word (writes_to bounds layout place row (flat_map f points))
      with_pass has =
          split
          ∙ ap (landed ty (landed ty word (writes_to bounds layout place row (passed accumulated (flat_map f points)))))
          (none_to_field bounds layout place row kept_all
          (λ write is layouts fields. let own = kept_from write is in
          own_is_no_acc has.it.op write.way own.1 (acc_ways has.number has.it has.there write own.0 (layouts ∙ sym has.layout_is) (fields ∙ sym has.field_is))))
          ∙ ap (landed ty word) (at_pass layout place bounds row (flat_map f points) accumulated have.passes.apart has)

      -- a field with none
      without_pass : (HasPass accumulated layout place → ⊥) → landed ty word (writes_to bounds layout place row (passed accumulated (flat_map f points) ++ kept_all)) ≡ landed ty word (writes_to bounds layout place row (flat_map f points))
      without_pass none =
          split
          ∙ ap (λ (ws : List Write). landed ty (landed ty word ws) (writes_to bounds layout place row kept_all)) (no_pass layout place bounds row (flat_map f points) accumulated none)
          ∙ elim (among_or layout place owned) [
            | inl among ↦ own_turns layout place bounds row ty owned f points word (own_field none) among
            | inr nowhere ↦ ap (landed ty word) (none_to_field bounds layout place row kept_all
                (λ write is layouts fields. unlisted nowhere write (kept_from write is).0 layouts fields))
                ∙ sym (ap (landed ty word) (none_to_field bounds layout place row (flat_map f points) (λ write is layouts fields. unlisted nowhere write is layouts fields)))
          ]
        where
          unlisted : (IsAmong layout place owned → ⊥) → (write : Write) → Contains (flat_map f points) write → write.layout ≡ layout → write.place ≡ place → ⊥
          unlisted nowhere write is layouts fields =
              nowhere (have.own layout place
              (subst (λ (w : Way). Contains uses (Writes layout place w)) (all_own none write is layouts fields)
              (subst (λ (l : ℕ). Contains uses (Writes l place write.way)) layouts (subst (λ (p : ℕ). Contains uses (Writes write.layout p write.way)) fields (is_used write is)))))

      leaves : landed ty word (writes_to bounds layout place row (passed accumulated (flat_map f points) ++ kept_all)) ≡ landed ty word (writes_to bounds layout place row (flat_map f points))
      leaves = elim (pass_or layout place accumulated) [
        | inl has ↦ with_pass has
        | inr none ↦ without_pass none
      ]

  from_passed : (list : List Accumulated) (write : Write) → Contains (passed list (flat_map f points)) write → Contains (flat_map f points) write
  from_passed [] write has = absurd (contains_none write has)
  from_passed (it ∷ list) write has = elim (Contains-append_cases (passed list (flat_map f points)) (into_field it.layout it.field (flat_map f points)) write has) [
    | inl before ↦ from_passed list write before
    | inr later ↦ (from_filter (to_field it.layout it.field) (flat_map f points) write later).0
  ]

  -- what the passes and the kept own writes land is what all writes land
  pub all_land : (news : List StoreWords) → Lands stores news (passed accumulated (flat_map f points) ++ flat_map (λ (at : Coord). kept_own owned (f at)) points) → Lands stores news (flat_map f points)
  all_land news =
      lands_as stores news (passed accumulated (flat_map f points) ++ kept_all) (flat_map f points)
      (λ flats stand active bounds layout place row word ty shape there field. leaves flats stand active layout place shape there field bounds row word ty)
      (λ write has. elim (Contains-append_cases (passed accumulated (flat_map f points)) kept_all write has) [
        | inl before ↦ from_passed accumulated write before
        | inr later ↦ (kept_from write later).0
      ])
