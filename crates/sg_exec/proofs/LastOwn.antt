-- The last own writes of an iteration leave what its own writes leave.
use Rattle.std.proofs.Common.{◌≡◌, ℕ, Bool, true, false, ◌&&◌, ◌==◌, cond, inl, inr, ◌⊎◌, List, [], ◌∷◌, ◌++◌, map, find, reverse, Option, Some, None, refl, sym, ap, ◌∙◌, subst}
use Rattle.std.specs.Prelude.{Contains}
use Rattle.std.specs.Option.{option_map, option_or}
use Rattle.std.specs.List.{flat_map}
use Rattle.std.proofs.lemmas.Bool.{and_parts, and_from, cond-true, cond-false, eqb-true, eq-eqb}
use Rattle.std.proofs.lemmas.List.{reverse-append, map-append}
use Rattle.std.proofs.lemmas.List.Folds.{find-append}
use Rattle.sg_words.proofs.Uses.{contains_none, contains_head, contains_rest, contains_cases, same_tests}
use Rattle.sg_words.specs.declared.operators.Ty.{Ty}
use Rattle.sg_coord.specs.declared.coord.Coord.{Coord}
use Rattle.sg_coord.specs.Bounds.{Bounds}
use Rattle.sg_coord.specs.Coord.{row_of}
use Rattle.sg_flat.specs.declared.effects.Way.{Way}
use Rattle.sg_flat.specs.declared.effects.Way.TheVariants.{Own}
use Rattle.sg_flat.specs.declared.effects.Write.{Write}
use Rattle.sg_flat.specs.Effects.{land, landed, is_to, writes_to}
use Rattle.sg_store.specs.StoreWords.{StoreWords}
use Rattle.sg_ir.specs.Runs.{is_own}
use Rattle.sg_exec.specs.declared.lanes.cell_write.CellWrite.{CellWrite}
use Rattle.sg_exec.specs.declared.results.shared.Owned.{Owned}
use Rattle.sg_exec.specs.steps.Landing.{landing}
use Rattle.sg_exec.specs.steps.Written.{is_own_to, own_write}
use Rattle.sg_exec.specs.steps.Racing.{listed, last_own}

-- a flat write is an own write to this field
abbrev pub is_flat_own : ℕ → ℕ → Write → Bool
is_flat_own layout place write = is_own write.way && ((write.layout == layout) && (write.place == place))

abbrev pub if_own : Bool → Write → Option Write → Option Write
if_own true write so_far = Some write
if_own false write so_far = so_far

-- the last own write to a field, or what was the last before
abbrev pub last_of : Option Write → ℕ → ℕ → List Write → Option Write
last_of so_far layout place [] = so_far
last_of so_far layout place (write ∷ writes) = last_of (if_own (is_flat_own layout place write) write so_far) layout place writes

abbrev pub kept : Option Write → List Write
kept None = []
kept (Some write) = write ∷ []

-- the last own write to each own-written field
abbrev pub kept_own : List Owned → List Write → List Write
kept_own owned writes = flat_map (λ (own : Owned). kept (last_of None own.layout own.field writes)) owned

-- ---- they are what the executor keeps

module _ (stores : List StoreWords) where
  last_landing : (layout place : ℕ) (writes : List Write) (so_far : Option Write)
      → option_or (own_write layout place (map (landing stores) writes)) (option_map (landing stores) so_far) ≡ option_map (landing stores) (last_of so_far layout place writes)
  last_landing layout place [] so_far = refl
  last_landing layout place (write ∷ writes) so_far =
      ap (λ (found : Option CellWrite). option_or found (option_map (landing stores) so_far))
      (ap (find (is_own_to layout place)) (reverse-append (landing stores write ∷ []) (map (landing stores) writes))
      ∙ find-append (is_own_to layout place) (reverse (map (landing stores) writes)) (landing stores write ∷ []))
      ∙ by_found (own_write layout place (map (landing stores) writes)) (is_flat_own layout place write)
      ∙ last_landing layout place writes (if_own (is_flat_own layout place write) write so_far)
    where
      by_found : (found : Option CellWrite) (b : Bool) → option_or (option_or found (cond b (Some (landing stores write)) None)) (option_map (landing stores) so_far) ≡ option_or found (option_map (landing stores) (if_own b write so_far))
      by_found None true = refl
      by_found None false = refl
      by_found (Some it) b = refl

  or_none : (found : Option CellWrite) → option_or found None ≡ found
  or_none None = refl
  or_none (Some it) = refl

  listed_kept : (o : Option Write) → listed (option_map (landing stores) o) ≡ map (landing stores) (kept o)
  listed_kept None = refl
  listed_kept (Some write) = refl

  pub last_own_is : (owned : List Owned) (writes : List Write) → last_own owned (map (landing stores) writes) ≡ map (landing stores) (kept_own owned writes)
  last_own_is [] writes = refl
  last_own_is (own ∷ owned) writes =
      let found : own_write own.layout own.field (map (landing stores) writes) ≡ option_map (landing stores) (last_of None own.layout own.field writes) =
      sym (or_none (own_write own.layout own.field (map (landing stores) writes))) ∙ last_landing own.layout own.field writes None in
      ap (λ (o : Option CellWrite). listed o ++ last_own owned (map (landing stores) writes)) found
      ∙ ap (λ (ws : List CellWrite). ws ++ last_own owned (map (landing stores) writes)) (listed_kept (last_of None own.layout own.field writes))
      ∙ ap (λ (ws : List CellWrite). map (landing stores) (kept (last_of None own.layout own.field writes)) ++ ws) (last_own_is owned writes)
      ∙ sym (map-append (landing stores) (kept (last_of None own.layout own.field writes)) (kept_own owned writes))

-- ---- what the last one is

-- a write that was found: an own write to the field, which is among the writes or was there before
pub last_found : (layout place : ℕ) (writes : List Write) (so_far : Option Write) (write : Write) → last_of so_far layout place writes ≡ Some write
    → (so_far ≡ Some write) ⊎ (Contains writes write × (is_flat_own layout place write ≡ true))
last_found layout place [] so_far write is = inl is
last_found layout place (first ∷ writes) so_far write is = by_test (is_flat_own layout place first) refl (last_found layout place writes (if_own (is_flat_own layout place first) first so_far) write is)
  where
    some_same : (a b : Write) → Some a ≡ Some b → a ≡ b
    some_same a b e = cc

    by_test : (b : Bool) → is_flat_own layout place first ≡ b → (if_own b first so_far ≡ Some write) ⊎ (Contains writes write × (is_flat_own layout place write ≡ true))
        → (so_far ≡ Some write) ⊎ (Contains (first ∷ writes) write × (is_flat_own layout place write ≡ true))
    by_test b e (inr (has, own)) = inr (contains_rest write first writes has, own)
    by_test true e (inl same) = let it : first ≡ write = some_same first write same in inr (contains_head write first writes it, subst (λ (w : Write). is_flat_own layout place w ≡ true) it e)
    by_test false e (inl same) = inl same

pub kept_among : (owned : List Owned) (writes : List Write) (write : Write) → Contains (kept_own owned writes) write → (own : Owned) × (Contains writes write × (is_flat_own own.layout own.field write ≡ true))
kept_among [] writes write has = absurd (contains_none write has)
kept_among (own ∷ owned) writes write has = by_found (last_of None own.layout own.field writes) refl has (λ later. kept_among owned writes write later)
  where
    of_found : (None ≡ Some write) ⊎ (Contains writes write × (is_flat_own own.layout own.field write ≡ true)) → Contains writes write × (is_flat_own own.layout own.field write ≡ true)
    of_found (inl none) = absurd (cc)
    of_found (inr both) = both

    by_found : (found : Option Write) → last_of None own.layout own.field writes ≡ found → Contains (kept found ++ kept_own owned writes) write
        → (Contains (kept_own owned writes) write → (one : Owned) × (Contains writes write × (is_flat_own one.layout one.field write ≡ true)))
        → (one : Owned) × (Contains writes write × (is_flat_own one.layout one.field write ≡ true))
    by_found None is has rest = rest has
    by_found (Some it) is has rest = elim (contains_cases write it (kept_own owned writes) has) [
      | inr later ↦ rest later
      | inl same ↦ (own, of_found (last_found own.layout own.field writes None write (is ∙ ap (λ (w : Write). Some w) same)))
    ]

-- ---- what they leave in a cell

abbrev pub value_or : Option Write → ℕ → ℕ
value_or None word = word
value_or (Some write) word = write.value

-- all writes to a field are own writes at one coordinate
pub record IsOwnField (layout place : ℕ) (at : Coord) (writes : List Write) : Type 0 where
  pub ways : (write : Write) → Contains writes write → write.layout ≡ layout → write.place ≡ place → write.way ≡ Own
  pub there : (write : Write) → Contains writes write → is_own write.way ≡ true → write.at ≡ at

rest_own : (layout place : ℕ) (at : Coord) (write : Write) (writes : List Write) → IsOwnField layout place at (write ∷ writes) → IsOwnField layout place at writes
rest_own layout place at write writes own = record {
  ways = λ w has. own.ways w (contains_rest w write writes has);
  there = λ w has. own.there w (contains_rest w write writes has);
}

fields_test : (layout place : ℕ) (write : Write) → ((write.layout == layout) && (write.place == place)) ≡ true → (write.layout ≡ layout) × (write.place ≡ place)
fields_test layout place write holds = let parts = and_parts (write.layout == layout) (write.place == place) holds in (eqb-true write.layout layout parts.0, eqb-true write.place place parts.1)

module _ (bounds : Bounds) (layout place : ℕ) (at : Coord) where
  -- at the row of the coordinate the test for the cell is that for the field
  same_test : (write : Write) (writes : List Write) → IsOwnField layout place at (write ∷ writes) → is_to bounds layout place (row_of bounds at) write ≡ is_flat_own layout place write
  same_test write writes own =
      same_tests (is_to bounds layout place (row_of bounds at) write) (is_flat_own layout place write)
      (λ holds.
      let one = and_parts (write.layout == layout) ((write.place == place) && (row_of bounds write.at == row_of bounds at)) holds in
      let two = and_parts (write.place == place) (row_of bounds write.at == row_of bounds at) one.1 in
      let way = own.ways write (contains_head write write writes refl) (eqb-true write.layout layout one.0) (eqb-true write.place place two.0) in
      and_from (is_own write.way) ((write.layout == layout) && (write.place == place)) (ap is_own way) (and_from (write.layout == layout) (write.place == place) one.0 two.0))
      (λ holds.
      let one = and_parts (is_own write.way) ((write.layout == layout) && (write.place == place)) holds in
      let two = and_parts (write.layout == layout) (write.place == place) one.1 in
      let there = own.there write (contains_head write write writes refl) one.0 in
      and_from (write.layout == layout) ((write.place == place) && (row_of bounds write.at == row_of bounds at)) two.0
      (and_from (write.place == place) (row_of bounds write.at == row_of bounds at) two.1 (eq-eqb (row_of bounds write.at) (row_of bounds at) (ap (row_of bounds) there))))

  -- its own writes leave the last value
  pub own_landed : (ty : Ty) (writes : List Write) (so_far : Option Write) (old word : ℕ) → IsOwnField layout place at writes → word ≡ value_or so_far old
      → landed ty word (writes_to bounds layout place (row_of bounds at) writes) ≡ value_or (last_of so_far layout place writes) old
  own_landed ty [] so_far old word own is = is
  own_landed ty (write ∷ writes) so_far old word own is =
      by_test (is_flat_own layout place write) refl
      (λ next other same. own_landed ty writes next old other (rest_own layout place at write writes own) same)
    where
      by_test : (b : Bool) → is_flat_own layout place write ≡ b
          → ((next : Option Write) (other : ℕ) → other ≡ value_or next old → landed ty other (writes_to bounds layout place (row_of bounds at) writes) ≡ value_or (last_of next layout place writes) old)
          → landed ty word (writes_to bounds layout place (row_of bounds at) (write ∷ writes)) ≡ value_or (last_of so_far layout place (write ∷ writes)) old
      by_test true e later =
          let way : write.way ≡ Own = (let one = and_parts (is_own write.way) ((write.layout == layout) && (write.place == place)) e in let two = fields_test layout place write one.1 in own.ways write (contains_head write write writes refl) two.0 two.1) in
          let first : land ty word write.way write.value ≡ write.value = ap (λ (w : Way). land ty word w write.value) way in
          ap (landed ty word) (cond-true (is_to bounds layout place (row_of bounds at) write) (write ∷ writes_to bounds layout place (row_of bounds at) writes) (writes_to bounds layout place (row_of bounds at) writes) (same_test write writes own ∙ e))
          ∙ ap (λ (w : ℕ). landed ty w (writes_to bounds layout place (row_of bounds at) writes)) first
          ∙ later (Some write) write.value refl
          ∙ sym (ap (λ (b : Bool). value_or (last_of (if_own b write so_far) layout place writes) old) e)
      by_test false e later =
          ap (landed ty word) (cond-false (is_to bounds layout place (row_of bounds at) write) (write ∷ writes_to bounds layout place (row_of bounds at) writes) (writes_to bounds layout place (row_of bounds at) writes) (same_test write writes own ∙ e))
          ∙ later so_far word is
          ∙ sym (ap (λ (b : Bool). value_or (last_of (if_own b write so_far) layout place writes) old) e)

  -- in other rows nothing of it lands
  pub own_elsewhere : (row : ℕ) (writes : List Write) → (row_of bounds at ≡ row → ⊥) → IsOwnField layout place at writes → writes_to bounds layout place row writes ≡ []
  own_elsewhere row [] apart own = refl
  own_elsewhere row (write ∷ writes) apart own =
      by_test (is_to bounds layout place row write) refl ∙ own_elsewhere row writes apart (rest_own layout place at write writes own)
    where
      by_test : (b : Bool) → is_to bounds layout place row write ≡ b → cond (is_to bounds layout place row write) (write ∷ writes_to bounds layout place row writes) (writes_to bounds layout place row writes) ≡ writes_to bounds layout place row writes
      by_test true e =
          let one = and_parts (write.layout == layout) ((write.place == place) && (row_of bounds write.at == row)) e in
          let two = and_parts (write.place == place) (row_of bounds write.at == row) one.1 in
          let way = own.ways write (contains_head write write writes refl) (eqb-true write.layout layout one.0) (eqb-true write.place place two.0) in
          let there = own.there write (contains_head write write writes refl) (ap is_own way) in
          absurd (apart (ap (row_of bounds) (sym there) ∙ eqb-true (row_of bounds write.at) row two.1))
      by_test false e = cond-false (is_to bounds layout place row write) (write ∷ writes_to bounds layout place row writes) (writes_to bounds layout place row writes) e
