-- The last own write to each own-written field leaves what all its own writes leave.
use Rattle.std.proofs.Common.{◌≡◌, ℕ, Bool, true, false, ◌&&◌, ◌==◌, cond, inl, inr, ◌⊎◌, List, [], ◌∷◌, ◌++◌, Option, Some, None, refl, sym, ap, ◌∙◌, subst}
use Rattle.std.specs.Prelude.{filter, Contains}
use Rattle.std.proofs.lemmas.Bool.{cases_eq, and_parts, and_from, cond-true, eqb-true, eq-eqb}
use Rattle.sg_words.proofs.Uses.{contains_none, contains_cases}
use Rattle.sg_words.specs.declared.operators.Ty.{Ty}
use Rattle.sg_coord.specs.declared.coord.Coord.{Coord}
use Rattle.sg_coord.specs.Bounds.{Bounds}
use Rattle.sg_coord.specs.Coord.{row_of}
use Rattle.sg_flat.specs.declared.effects.Way.{Way}
use Rattle.sg_flat.specs.declared.effects.Way.TheVariants.{Own}
use Rattle.sg_flat.specs.declared.effects.Write.{Write}
use Rattle.sg_flat.specs.Effects.{land, landed, is_to, writes_to}
use Rattle.sg_ir.specs.Runs.{is_own}
use Rattle.sg_exec.specs.declared.results.shared.Owned.{Owned}
use Rattle.sg_exec.specs.steps.Passes.{IsAmong}
use Rattle.sg_exec.proofs.LastOwn.{is_flat_own, last_of, kept, kept_own, last_found, kept_among, value_or, IsOwnField, own_landed, own_elsewhere}

-- ---- lists of writes, one after the other

pub filter_both : (t : Write → Bool) (xs ys : List Write) → filter t (xs ++ ys) ≡ filter t xs ++ filter t ys
filter_both t [] ys = refl
filter_both t (x ∷ xs) ys = by_test (t x) (filter_both t xs ys)
  where
    by_test : (b : Bool) → filter t (xs ++ ys) ≡ filter t xs ++ filter t ys → cond b (x ∷ filter t (xs ++ ys)) (filter t (xs ++ ys)) ≡ cond b (x ∷ filter t xs) (filter t xs) ++ filter t ys
    by_test true e = ap (λ (ws : List Write). x ∷ ws) e
    by_test false e = e

pub landed_both : (ty : Ty) (word : ℕ) (xs ys : List Write) → landed ty word (xs ++ ys) ≡ landed ty (landed ty word xs) ys
landed_both ty word [] ys = refl
landed_both ty word (x ∷ xs) ys = landed_both ty (land ty word x.way x.value) xs ys

-- the found write is an own write to the field, among the writes
found_own : (layout place : ℕ) (writes : List Write) (write : Write) → last_of None layout place writes ≡ Some write → Contains writes write × (is_flat_own layout place write ≡ true)
found_own layout place writes write is = by (last_found layout place writes None write is)
  where
    by : (None ≡ Some write) ⊎ (Contains writes write × (is_flat_own layout place write ≡ true)) → Contains writes write × (is_flat_own layout place write ≡ true)
    by (inl none) = absurd (cc)
    by (inr both) = both

own_parts : (layout place : ℕ) (write : Write) → is_flat_own layout place write ≡ true → (is_own write.way ≡ true) × ((write.layout ≡ layout) × (write.place ≡ place))
own_parts layout place write holds =
    let one = and_parts (is_own write.way) ((write.layout == layout) && (write.place == place)) holds in
    let two = and_parts (write.layout == layout) (write.place == place) one.1 in
    (one.0, (eqb-true write.layout layout two.0, eqb-true write.place place two.1))

module _ (bounds : Bounds) (layout place : ℕ) (at : Coord) (ty : Ty) (writes : List Write) (own_field : IsOwnField layout place at writes) where
  abbrev last : Option Write
  last = last_of None layout place writes

  -- what is kept for the field itself
  kept_here : (word : ℕ) → landed ty word (writes_to bounds layout place (row_of bounds at) (kept last)) ≡ value_or last word
  kept_here word = by_found (last_of None layout place writes) refl
    where
      by_found : (found : Option Write) → last_of None layout place writes ≡ found → landed ty word (writes_to bounds layout place (row_of bounds at) (kept found)) ≡ value_or found word
      by_found None is = refl
      by_found (Some write) is =
          let both = found_own layout place writes write is in
          let parts = own_parts layout place write both.1 in
          let way : write.way ≡ Own = own_field.ways write both.0 parts.1.0 parts.1.1 in
          let there : write.at ≡ at = own_field.there write both.0 parts.0 in
          let test : is_to bounds layout place (row_of bounds at) write ≡ true =
          and_from (write.layout == layout) ((write.place == place) && (row_of bounds write.at == row_of bounds at)) (eq-eqb write.layout layout parts.1.0)
          (and_from (write.place == place) (row_of bounds write.at == row_of bounds at) (eq-eqb write.place place parts.1.1) (eq-eqb (row_of bounds write.at) (row_of bounds at) (ap (row_of bounds) there))) in
          ap (landed ty word) (cond-true (is_to bounds layout place (row_of bounds at) write) (write ∷ []) [] test) ∙ ap (λ (w : Way). land ty word w write.value) way

  -- what is kept for another field doesn't go there
  kept_other : (own : Owned) (row : ℕ) → (own.layout ≡ layout → own.field ≡ place → ⊥) → writes_to bounds layout place row (kept (last_of None own.layout own.field writes)) ≡ []
  kept_other own row apart = by_found (last_of None own.layout own.field writes) refl
    where
      by_test : (write : Write) (b : Bool) → (b ≡ true → ⊥) → cond b (write ∷ []) [] ≡ []
      by_test write true none = absurd (none refl)
      by_test write false none = refl

      by_found : (found : Option Write) → last_of None own.layout own.field writes ≡ found → writes_to bounds layout place row (kept found) ≡ []
      by_found None is = refl
      by_found (Some write) is =
          let parts = own_parts own.layout own.field write (found_own own.layout own.field writes write is).1 in
          by_test write (is_to bounds layout place row write)
          (λ holds.
          let one = and_parts (write.layout == layout) ((write.place == place) && (row_of bounds write.at == row)) holds in
          let two = and_parts (write.place == place) (row_of bounds write.at == row) one.1 in
          apart (sym parts.1.0 ∙ eqb-true write.layout layout one.0) (sym parts.1.1 ∙ eqb-true write.place place two.0))

  -- one own-written field
  step : (own : Owned) (word : ℕ) → ((own.layout ≡ layout) × (own.field ≡ place)) ⊎ (own.layout ≡ layout → own.field ≡ place → ⊥)
  step own word = elim (cases_eq own.layout layout) [
    | inr other ↦ inr (λ same there. other same)
    | inl same ↦ elim (cases_eq own.field place) [
      | inr other ↦ inr (λ same' there. other there)
      | inl there ↦ inl (same, there)
    ]
  ]

  twice : (found : Option Write) (word : ℕ) → value_or found (value_or found word) ≡ value_or found word
  twice None word = refl
  twice (Some write) word = refl

  abbrev row : ℕ
  row = row_of bounds at

  one_kept : (own : Owned) (word : ℕ) → (own.layout ≡ layout) × (own.field ≡ place) → landed ty word (writes_to bounds layout place row (kept (last_of None own.layout own.field writes))) ≡ value_or last word
  one_kept own word same =
      ap (λ (l : ℕ). landed ty word (writes_to bounds layout place row (kept (last_of None l own.field writes)))) same.0
      ∙ ap (λ (p : ℕ). landed ty word (writes_to bounds layout place row (kept (last_of None layout p writes)))) same.1
      ∙ kept_here word

  split : (own : Owned) (owned : List Owned) (word : ℕ) → landed ty word (writes_to bounds layout place row (kept_own (own ∷ owned) writes))
      ≡ landed ty (landed ty word (writes_to bounds layout place row (kept (last_of None own.layout own.field writes)))) (writes_to bounds layout place row (kept_own owned writes))
  split own owned word =
      ap (landed ty word) (filter_both (is_to bounds layout place row) (kept (last_of None own.layout own.field writes)) (kept_own owned writes))
      ∙ landed_both ty word (writes_to bounds layout place row (kept (last_of None own.layout own.field writes))) (writes_to bounds layout place row (kept_own owned writes))

  stays : (owned : List Owned) (word old : ℕ) → word ≡ value_or last old → landed ty word (writes_to bounds layout place row (kept_own owned writes)) ≡ value_or last old
  stays [] word old is = is
  stays (own ∷ owned) word old is = split own owned word ∙ elim (step own word) [
    | inl same ↦ stays owned (landed ty word (writes_to bounds layout place row (kept (last_of None own.layout own.field writes)))) old (one_kept own word same ∙ ap (value_or last) is ∙ twice last old)
    | inr other ↦ stays owned (landed ty word (writes_to bounds layout place row (kept (last_of None own.layout own.field writes)))) old (ap (landed ty word) (kept_other own row other) ∙ is)
  ]

  reached_last : (owned : List Owned) (word : ℕ) → IsAmong layout place owned → landed ty word (writes_to bounds layout place row (kept_own owned writes)) ≡ value_or last word
  reached_last [] word (own, (has, same)) = absurd (contains_none own has)
  reached_last (first ∷ owned) word (own, (has, same)) = split first owned word ∙ elim (step first word) [
    | inl same' ↦ stays owned (landed ty word (writes_to bounds layout place row (kept (last_of None first.layout first.field writes)))) word (one_kept first word same')
    | inr other ↦ elim (contains_cases own first owned has) [
      | inl is ↦ absurd (other (ap (λ (o : Owned). o.layout) is ∙ same.0) (ap (λ (o : Owned). o.field) is ∙ same.1))
      | inr later ↦ reached_last owned (landed ty word (writes_to bounds layout place row (kept (last_of None first.layout first.field writes)))) (own, (later, same))
          ∙ ap (value_or last) (ap (landed ty word) (kept_other first row other))
    ]
  ]

  kept_is_own : (owned : List Owned) → IsOwnField layout place at (kept_own owned writes)
  kept_is_own owned = record {
    ways = λ w has. own_field.ways w (kept_among owned writes w has).1.0;
    there = λ w has. own_field.there w (kept_among owned writes w has).1.0;
  }

  -- in each cell of the field
  pub kept_leaves : (owned : List Owned) (any word : ℕ) → IsAmong layout place owned → landed ty word (writes_to bounds layout place any (kept_own owned writes)) ≡ landed ty word (writes_to bounds layout place any writes)
  kept_leaves owned any word among = elim (cases_eq (row_of bounds at) any) [
    | inl here ↦ subst (λ (r : ℕ). landed ty word (writes_to bounds layout place r (kept_own owned writes)) ≡ landed ty word (writes_to bounds layout place r writes)) here
        (reached_last owned word among ∙ sym (own_landed bounds layout place at ty writes None word word own_field refl))
    | inr elsewhere ↦ ap (landed ty word) (own_elsewhere bounds layout place at any (kept_own owned writes) elsewhere (kept_is_own owned))
        ∙ sym (ap (landed ty word) (own_elsewhere bounds layout place at any writes elsewhere own_field))
  ]
