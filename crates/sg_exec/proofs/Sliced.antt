-- What the address slice wants is what the body writes, beside what is active already.
use Rattle.std.proofs.Common.{◌≡◌, ℕ, inl, inr, Bool, true, false, cond, eqb, List, [], ◌∷◌, ◌++◌, map, Option, Some, refl, sym, ap, ◌∙◌, subst}
use Rattle.std.specs.Prelude.{filter, slice_get, Contains}
use Rattle.std.specs.Option.{option_or}
use Rattle.std.proofs.lemmas.Bool.{cases_Bool, cond-true, cond-false, eqb-true}
use Rattle.std.proofs.lemmas.List.{map-append}
use Rattle.std.proofs.lemmas.List.Elements.{filter-append, Contains-append_left, Contains-append_right, Contains-append_cases}
use Rattle.sg_words.proofs.Uses.{contains_none, contains_head, contains_rest, into_map, from_map, into_filter, from_filter}
use Rattle.sg_coord.specs.declared.coord.Coord.{Coord}
use Rattle.sg_layout.specs.declared.shape.Shape.{Shape}
use Rattle.sg_flat.specs.declared.effects.Write.{Write}
use Rattle.sg_flat.specs.declared.effects.Turn.{Turn}
use Rattle.sg_flat.specs.declared.effects.RunFault.{RunFault}
use Rattle.sg_flat.specs.declared.effects.RunFault.TheVariants.{WriteOutside}
use Rattle.sg_flat.specs.declared.state.FlatLayout.{FlatLayout}
use Rattle.sg_flat.specs.Effects.{writes_of}
use Rattle.sg_flat.specs.Kernel.{is_inside_of, outside_among, first_outside}
use Rattle.sg_exec.specs.steps.Wants.{bare, coords_in, SameMembers, AreWants}
use Rattle.sg_exec.proofs.Wanting.{then_members}

module _ (act : Write → Bool) where
  -- those that may activate, without fields and values
  abbrev pub wants_of : List Write → List Write
  wants_of writes = map bare (filter act writes)

  wants_append : (xs ys : List Write) → wants_of (xs ++ ys) ≡ wants_of xs ++ wants_of ys
  wants_append xs ys = ap (map bare) (filter-append act xs ys) ∙ map-append bare (filter act xs) (filter act ys)

  pub wants_of_turns : (whole slice : Coord → Turn) (points : List Coord) → ((at : Coord) → Contains points at → (slice at).writes ≡ wants_of (whole at).writes)
      → writes_of (map slice points) ≡ wants_of (writes_of (map whole points))
  wants_of_turns whole slice [] each = refl
  wants_of_turns whole slice (at ∷ points) each =
      ap (λ (ws : List Write). ws ++ writes_of (map slice points)) (each at (contains_head at at points refl))
      ∙ ap (λ (ws : List Write). wants_of (whole at).writes ++ ws) (wants_of_turns whole slice points (λ x has. each x (contains_rest x at points has)))
      ∙ sym (wants_append (whole at).writes (writes_of (map whole points)))

  -- ---- the first write outside

  pub outside_same : (shapes : List Shape) (at : Coord) (writes : List Write) → ((write : Write) → Contains writes write → act write ≡ false → is_inside_of (slice_get shapes write.layout) write.at ≡ true)
      → outside_among shapes at (wants_of writes) ≡ outside_among shapes at writes
  outside_same shapes at [] left = refl
  outside_same shapes at (write ∷ writes) left =
      let rest : outside_among shapes at (wants_of writes) ≡ outside_among shapes at writes = outside_same shapes at writes (λ w has out. left w (contains_rest w write writes has) out) in
      elim (cases_Bool (act write)) [
        | inl kept ↦ ap (λ (ws : List Write). outside_among shapes at (map bare ws)) (cond-true (act write) (write ∷ filter act writes) (filter act writes) kept)
            ∙ ap (λ (f : Option RunFault). cond (is_inside_of (slice_get shapes write.layout) write.at) f (Some (WriteOutside write.stmt at))) rest
        | inr out ↦ ap (λ (ws : List Write). outside_among shapes at (map bare ws)) (cond-false (act write) (write ∷ filter act writes) (filter act writes) out)
            ∙ rest ∙ sym (cond-true (is_inside_of (slice_get shapes write.layout) write.at) (outside_among shapes at writes) (Some (WriteOutside write.stmt at)) (left write (contains_head write write writes refl) out))
      ]

  pub first_same : (shapes : List Shape) (whole slice : Coord → Turn) (points : List Coord) → ((at : Coord) → Contains points at → (slice at).writes ≡ wants_of (whole at).writes)
      → ((at : Coord) → ((slice at).at ≡ at) × ((whole at).at ≡ at))
      → ((at : Coord) → Contains points at → (write : Write) → Contains (whole at).writes write → act write ≡ false → is_inside_of (slice_get shapes write.layout) write.at ≡ true)
      → first_outside shapes (map slice points) ≡ first_outside shapes (map whole points)
  first_same shapes whole slice [] each ats left = refl
  first_same shapes whole slice (at ∷ points) each ats left =
      ap (λ (x : Coord). option_or (outside_among shapes x (slice at).writes) (first_outside shapes (map slice points))) (ats at).0
      ∙ ap (λ (ws : List Write). option_or (outside_among shapes at ws) (first_outside shapes (map slice points))) (each at (contains_head at at points refl))
      ∙ ap (λ (f : Option RunFault). option_or f (first_outside shapes (map slice points))) (outside_same shapes at (whole at).writes (left at (contains_head at at points refl)))
      ∙ ap (λ (x : Coord). option_or (outside_among shapes x (whole at).writes) (first_outside shapes (map slice points))) (sym (ats at).1)
      ∙ ap (λ (f : Option RunFault). option_or (outside_among shapes (whole at).at (whole at).writes) f)
      (first_same shapes whole slice points (λ x has. each x (contains_rest x at points has)) ats (λ x has. left x (contains_rest x at points has)))

  -- ---- what is wanted

  coords_fewer : (number : ℕ) (writes : List Write) (x : Coord) → Contains (coords_in number (wants_of writes)) x → Contains (coords_in number writes) x
  coords_fewer number writes x has =
      let to : Write → Bool = λ (write : Write). eqb write.layout number in
      let at_of : Write → Coord = λ (write : Write). write.at in
      let found = from_map at_of (filter to (wants_of writes)) x has in
      let kept = from_filter to (wants_of writes) found.0 found.1 in
      let plain = from_map bare (filter act writes) found.0 kept.0 in
      let old = from_filter act writes plain.0 plain.1 in
      let here : to plain.0 ≡ true = ap to plain.2 ∙ kept.1 in
      subst (λ (y : Coord). Contains (coords_in number writes) y) (ap at_of plain.2 ∙ found.2) (into_map at_of (filter to writes) plain.0 (into_filter to writes plain.0 old.0 here))

  coords_all : (number : ℕ) (active : List Coord) (writes : List Write) → ((write : Write) → Contains writes write → act write ≡ false → write.layout ≡ number → Contains active write.at)
      → (x : Coord) → Contains (coords_in number writes) x → Contains (active ++ coords_in number (wants_of writes)) x
  coords_all number active writes left x has =
      let to : Write → Bool = λ (write : Write). eqb write.layout number in
      let at_of : Write → Coord = λ (write : Write). write.at in
      let found = from_map at_of (filter to writes) x has in
      let old = from_filter to writes found.0 found.1 in
      elim (cases_Bool (act found.0)) [
        | inl kept ↦ Contains-append_right active (coords_in number (wants_of writes)) x
            (subst (λ (y : Coord). Contains (coords_in number (wants_of writes)) y) found.2
            (into_map at_of (filter to (wants_of writes)) (bare found.0) (into_filter to (wants_of writes) (bare found.0) (into_map bare (filter act writes) found.0 (into_filter act writes found.0 old.0 kept)) old.1)))
        | inr out ↦ Contains-append_left active (coords_in number (wants_of writes)) x
            (subst (λ (y : Coord). Contains active y) found.2 (left found.0 old.0 out (eqb-true found.0.layout number old.1)))
      ]

  same_coords : (number : ℕ) (active : List Coord) (writes : List Write) → ((write : Write) → Contains writes write → act write ≡ false → write.layout ≡ number → Contains active write.at)
      → SameMembers (active ++ coords_in number (wants_of writes)) (active ++ coords_in number writes)
  same_coords number active writes left = λ x. (
    (λ has. elim (Contains-append_cases active (coords_in number (wants_of writes)) x has) [
      | inl old ↦ Contains-append_left active (coords_in number writes) x old
      | inr new ↦ Contains-append_right active (coords_in number writes) x (coords_fewer number writes x new)
    ]),
    (λ has. elim (Contains-append_cases active (coords_in number writes) x has) [
      | inl old ↦ Contains-append_left active (coords_in number (wants_of writes)) x old
      | inr new ↦ coords_all number active writes left x new
    ]),
  )

  pub wants_same : (flats : List FlatLayout) (wants : List (List Coord)) (writes : List Write)
      → ((write : Write) → Contains writes write → act write ≡ false → (flat : FlatLayout) → slice_get flats write.layout ≡ Some flat → Contains flat.active write.at)
      → AreWants flats wants (wants_of writes) → AreWants flats wants writes
  wants_same flats wants writes left are = λ number flat list is_flat is_list.
      then_members (flat.active ++ list) (flat.active ++ coords_in number (wants_of writes)) (flat.active ++ coords_in number writes) (are number flat list is_flat is_list)
      (same_coords number flat.active writes (λ write has out same. left write has out flat (ap (slice_get flats) same ∙ is_flat)))

-- what each turn's writes keep, all writes keep
pub of_writes : (P : Write → Type 0) (f : Coord → Turn) (points : List Coord) → ((at : Coord) → Contains points at → (write : Write) → Contains (f at).writes write → P write)
    → (write : Write) → Contains (writes_of (map f points)) write → P write
of_writes P f [] each write has = absurd (contains_none write has)
of_writes P f (at ∷ points) each write has = elim (Contains-append_cases (f at).writes (writes_of (map f points)) write has) [
  | inl here ↦ each at (contains_head at at points refl) write here
  | inr later ↦ of_writes P f points (λ x there. each x (contains_rest x at points there)) write later
]
