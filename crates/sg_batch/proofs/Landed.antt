-- What kernels made lands one after the other.
use Rattle.std.proofs.Common.{◌≡◌, ℕ, suc, ◌+◌, ◌<◌, true, List, [], ◌∷◌, ◌++◌, length, Option, Some, None, Result, Ok, Err, refl, sym, ap, ◌∙◌, subst}
use Rattle.std.specs.Prelude.{Contains, All, reverse, slice_get}
use Rattle.std.proofs.lemmas.List.{length-map, nil_from_length}
use Rattle.std.specs.Result.{IsOkAnd}
use Rattle.sg_words.specs.declared.memory.Stop.TheVariants as stop
use Rattle.sg_words.proofs.Uses.{contains_head, contains_rest}
use Rattle.sg_layout.specs.declared.shape.Shape.{Shape}
use Rattle.sg_flat.specs.declared.effects.RunFault.{RunFault}
use Rattle.sg_flat.specs.declared.state.FlatState.{FlatState}
use Rattle.sg_flat.specs.State.{IsFlat}
use Rattle.sg_store.specs.StoreWords.{StoreWords}
use Rattle.sg_store.specs.WellFormed.{IsWellFormed}
use Rattle.sg_ir.specs.declared.code.KernelCode.{KernelCode}
use Rattle.sg_exec.specs.declared.results.made.Made.{Made}
use Rattle.sg_exec.specs.Running.{run_meaning}
use Rattle.sg_exec.specs.Standing.{StandForState}
use Rattle.sg_exec.specs.Preparing.{IsMadeFor, KeepsUnwritten, HasLandedIn, CanLandIn}
use Rattle.sg_exec.proofs.Uses.{all_flat, is_for_others, prepared_others}
use Rattle.sg_batch.specs.declared.fault.BatchFault.{BatchFault}
use Rattle.sg_batch.specs.Batches.{EndsAs, end_after, group_end, members}
use Rattle.sg_batch.specs.Independent.{are_independent, AreApart}
use Rattle.sg_batch.specs.steps.Passing.{FlatAlong}
use Rattle.sg_batch.specs.steps.Ready.{AreReady, Fit}
use Rattle.sg_batch.proofs.Members.{at_below, head_of, members_next, pairs_head, pairs_tail, reverse_snoc, same_where}

-- each of these kernels is independent of one
abbrev pub ApartFrom : KernelCode → List KernelCode → Type 0
ApartFrom kernel kernels = (other : KernelCode) → Contains kernels other → are_independent kernel other ≡ true

module _ (kernel : KernelCode) (olds news : List StoreWords) (kept : KeepsUnwritten kernel olds news) where
  -- what independent kernels made can land after it
  pub fit_after : (kernels : List KernelCode) (made : List Made) → length news ≡ length olds → ApartFrom kernel kernels → Fit olds kernels made → Fit news kernels made
  fit_after [] [] long apart fits = tt
  fit_after [] (one ∷ made) long apart fits = absurd fits
  fit_after (other ∷ kernels) [] long apart fits = tt
  fit_after (other ∷ kernels) (one ∷ made) long apart fits = (
    is_for_others other olds news one fits.0 (same_where kernel other olds news (apart other (contains_head other other kernels refl)) kept) long,
    fit_after kernels made long (λ it has. apart it (contains_rest it other kernels has)) fits.1,
  )

  -- and is what they prepared
  pub ready_after : (shapes : List Shape) (at : ℕ) (kernels : List KernelCode) (made : List Made) (refused : Option BatchFault) → ApartFrom kernel kernels
      → AreReady shapes olds at kernels made refused → AreReady shapes news at kernels made refused
  ready_after shapes at [] made refused apart ready = ready
  ready_after shapes at (other ∷ kernels) [] None apart ready = absurd ready
  ready_after shapes at (other ∷ kernels) [] (Some fault) apart ready =
      (ready.0, prepared_others shapes other olds news (Err (stop.Refused fault.fault)) (same_where kernel other olds news (apart other (contains_head other other kernels refl)) kept) ready.1)
  ready_after shapes at (other ∷ kernels) (one ∷ made) refused apart ready = (
    prepared_others shapes other olds news (Ok one) (same_where kernel other olds news (apart other (contains_head other other kernels refl)) kept) ready.0,
    ready_after shapes (suc at) kernels made refused (λ it has. apart it (contains_rest it other kernels has)) ready.1,
  )

-- a refusal of the kernel at a place
abbrev at_place : ℕ → RunFault → Option BatchFault
at_place at why = Some (record { at = at; fault = why })

-- nothing is left to land
pub landed_none : (shapes : List Shape) (stores : List StoreWords) (state : FlatState) (at : ℕ) (kernels : List KernelCode) (refused : Option BatchFault) → All IsWellFormed stores → StandForState shapes stores state
    → AreReady shapes stores at kernels [] refused → EndsAs shapes stores refused (group_end shapes at state kernels)
landed_none shapes stores state at [] refused well stand ready = record { refusal = sym ready; stand = stand }
landed_none shapes stores state at (kernel ∷ kernels) None well stand ready = absurd ready
landed_none shapes stores state at (kernel ∷ kernels) (Some fault) well stand ready =
    subst (λ (meaning : Result FlatState RunFault). EndsAs shapes stores (Some fault) (end_after at state (λ next. group_end shapes (suc at) next kernels) meaning))
    (sym (ready.1 stores state well stand (λ layout has. refl)))
    (record { refusal = ap (λ (n : ℕ). at_place n fault.fault) (sym ready.0); stand = stand })

-- the first lands, and then the others
pub landed_first : (shapes : List Shape) (olds mids news : List StoreWords) (state : FlatState) (at : ℕ) (kernel : KernelCode) (kernels : List KernelCode) (one : Made) (made : List Made) (refused : Option BatchFault)
    → All IsWellFormed olds → StandForState shapes olds state → AreReady shapes olds at (kernel ∷ kernels) (one ∷ made) refused → HasLandedIn olds one mids
    → ((next : FlatState) → StandForState shapes mids next → EndsAs shapes news refused (group_end shapes (suc at) next kernels))
    → EndsAs shapes news refused (group_end shapes at state (kernel ∷ kernels))
landed_first shapes olds mids news state at kernel kernels one made refused well stand ready landed later =
    by (run_meaning shapes state kernel) refl (ready.0 olds state well stand (λ layout has. refl) mids landed)
  where
    by : (meaning : Result FlatState RunFault) → run_meaning shapes state kernel ≡ meaning → IsOkAnd meaning (StandForState shapes mids) → EndsAs shapes news refused (group_end shapes at state (kernel ∷ kernels))
    by (Ok next) is stands =
        subst (λ (m : Result FlatState RunFault). EndsAs shapes news refused (end_after at state (λ after. group_end shapes (suc at) after kernels) m)) (sym is) (later next stands)
    by (Err fault) is stands = absurd stands

-- ---- the states on the way are flat

pub flat_here : (shapes : List Shape) (stores : List StoreWords) (state : FlatState) → StandForState shapes stores state → IsFlat shapes state
flat_here shapes stores state stand = subst (λ (ss : List Shape). IsFlat ss state) stand.shapes_are (all_flat stores state.layouts stand.stand)

pub flat_none : (shapes : List Shape) (stores : List StoreWords) (state : FlatState) (at : ℕ) (kernels : List KernelCode) (refused : Option BatchFault) → All IsWellFormed stores → StandForState shapes stores state
    → AreReady shapes stores at kernels [] refused → FlatAlong shapes state kernels
flat_none shapes stores state at [] refused well stand ready = flat_here shapes stores state stand
flat_none shapes stores state at (kernel ∷ kernels) None well stand ready = absurd ready
flat_none shapes stores state at (kernel ∷ kernels) (Some fault) well stand ready = (
  flat_here shapes stores state stand,
  λ next is. absurd (not_both next is (ready.1 stores state well stand (λ layout has. refl))),
)
  where
    not_both : (next : FlatState) → run_meaning shapes state kernel ≡ Ok next → run_meaning shapes state kernel ≡ Err fault.fault → ⊥
    not_both next is refused = absurd (cc (is, refused))

pub flat_first : (shapes : List Shape) (olds mids : List StoreWords) (state : FlatState) (at : ℕ) (kernel : KernelCode) (kernels : List KernelCode) (one : Made) (made : List Made) (refused : Option BatchFault)
    → All IsWellFormed olds → StandForState shapes olds state → AreReady shapes olds at (kernel ∷ kernels) (one ∷ made) refused → HasLandedIn olds one mids
    → ((next : FlatState) → StandForState shapes mids next → FlatAlong shapes next kernels) → FlatAlong shapes state (kernel ∷ kernels)
flat_first shapes olds mids state at kernel kernels one made refused well stand ready landed later =
    (flat_here shapes olds state stand, λ next is. by next is (ready.0 olds state well stand (λ layout has. refl) mids landed))
  where
    by : (next : FlatState) → run_meaning shapes state kernel ≡ Ok next → IsOkAnd (run_meaning shapes state kernel) (StandForState shapes mids) → FlatAlong shapes next kernels
    by next is stands = later next (subst (λ (m : Result FlatState RunFault). IsOkAnd m (StandForState shapes mids)) is stands)

-- ---- the first member of a group lands

module _ (kernels : List KernelCode) (group : List ℕ) (number : ℕ) (rest : List ℕ) (is : group ≡ number ∷ rest) (there : All (λ n. n < length kernels) group) where
  first : (x : KernelCode) × (slice_get kernels number ≡ Some x)
  first = at_below kernels number (head_of (λ (n : ℕ). n < length kernels) group number rest is there)

  members_are : members kernels group ≡ first.0 ∷ members kernels rest
  members_are = ap (members kernels) is ∙ members_next kernels number rest first.0 first.1

  pub apart_later : AreApart (members kernels group) → AreApart (members kernels rest)
  apart_later apart = pairs_tail (λ (one other : KernelCode). are_independent one other ≡ true) first.0 (members kernels rest) (subst AreApart members_are apart)

  apart_first : AreApart (members kernels group) → ApartFrom first.0 (members kernels rest)
  apart_first apart = pairs_head (λ (one other : KernelCode). are_independent one other ≡ true) first.0 (members kernels rest) (subst AreApart members_are apart)

  module _ (stores : List StoreWords) (made mids : List Made) (one : Made) (items : made ≡ mids ++ one ∷ []) (apart : AreApart (members kernels group)) (fits : Fit stores (members kernels group) (reverse made)) where
    order : reverse made ≡ one ∷ reverse mids
    order = ap reverse items ∙ reverse_snoc mids one

    whole : Fit stores (first.0 ∷ members kernels rest) (one ∷ reverse mids)
    whole = subst (λ (ms : List Made). Fit stores (first.0 ∷ members kernels rest) ms) order (subst (λ (ks : List KernelCode). Fit stores ks (reverse made)) members_are fits)

    pub can_land : CanLandIn stores one
    can_land = whole.0.lands

    module _ (news : List StoreWords) (landed : HasLandedIn stores one news) (kept : (kernel : KernelCode) → IsMadeFor kernel stores one → KeepsUnwritten kernel stores news) where
      long : length news ≡ length stores
      long =
          sym (length-map news (λ (store : StoreWords). store.shape)) ∙ ap length (landed.news_shapes ∙ landed.mids_shapes ∙ whole.0.shapes) ∙ length-map stores (λ (store : StoreWords). store.shape)

      -- the others can land after it
      pub fits_later : Fit news (members kernels rest) (reverse mids)
      fits_later = fit_after first.0 stores news (kept first.0 whole.0) (members kernels rest) (reverse mids) long (apart_first apart) whole.1

      module _ (shapes : List Shape) (at : ℕ) (refused : Option BatchFault) (state : FlatState) (well : All IsWellFormed stores) (stand : StandForState shapes stores state)
          (ready : AreReady shapes stores at (members kernels group) (reverse made) refused) where
        ready_whole : AreReady shapes stores at (first.0 ∷ members kernels rest) (one ∷ reverse mids) refused
        ready_whole =
            subst (λ (ms : List Made). AreReady shapes stores at (first.0 ∷ members kernels rest) ms refused) order (subst (λ (ks : List KernelCode). AreReady shapes stores at ks (reverse made) refused) members_are ready)

        ready_later : AreReady shapes news (suc at) (members kernels rest) (reverse mids) refused
        ready_later = ready_after first.0 stores news (kept first.0 whole.0) shapes (suc at) (members kernels rest) (reverse mids) refused (apart_first apart) ready_whole.1

        pub ends_first : (final : List StoreWords)
            → ((next : FlatState) → StandForState shapes news next → AreReady shapes news (suc at) (members kernels rest) (reverse mids) refused → EndsAs shapes final refused (group_end shapes (suc at) next (members kernels rest)))
            → EndsAs shapes final refused (group_end shapes at state (members kernels group))
        ends_first final later =
            subst (λ (ks : List KernelCode). EndsAs shapes final refused (group_end shapes at state ks)) (sym members_are)
            (landed_first shapes stores news final state at first.0 (members kernels rest) one (reverse mids) refused well stand ready_whole landed (λ next stands. later next stands ready_later))

        pub along_first : ((next : FlatState) → StandForState shapes news next → AreReady shapes news (suc at) (members kernels rest) (reverse mids) refused → FlatAlong shapes next (members kernels rest))
            → FlatAlong shapes state (members kernels group)
        along_first later =
            subst (FlatAlong shapes state) (sym members_are)
            (flat_first shapes stores news state at first.0 (members kernels rest) one (reverse mids) refused well stand ready_whole landed (λ next stands. later next stands ready_later))

-- nothing is left to land, by the list as it is popped
pub ends_none : (shapes : List Shape) (stores : List StoreWords) (state : FlatState) (at : ℕ) (kernels : List KernelCode) (made : List Made) (refused : Option BatchFault) → made ≡ [] → All IsWellFormed stores
    → StandForState shapes stores state → AreReady shapes stores at kernels (reverse made) refused → EndsAs shapes stores refused (group_end shapes at state kernels)
ends_none shapes stores state at kernels made refused none well stand ready =
    landed_none shapes stores state at kernels refused well stand (subst (λ (ms : List Made). AreReady shapes stores at kernels (reverse ms) refused) none ready)

pub along_none : (shapes : List Shape) (stores : List StoreWords) (state : FlatState) (at : ℕ) (kernels : List KernelCode) (made : List Made) (refused : Option BatchFault) → made ≡ [] → All IsWellFormed stores
    → StandForState shapes stores state → AreReady shapes stores at kernels (reverse made) refused → FlatAlong shapes state kernels
along_none shapes stores state at kernels made refused none well stand ready =
    flat_none shapes stores state at kernels refused well stand (subst (λ (ms : List Made). AreReady shapes stores at kernels (reverse ms) refused) none ready)

-- no member is left, and something to land: that can't be
pub nobody : (kernels : List KernelCode) (stores : List StoreWords) (group : List ℕ) (made mids : List Made) (one : Made) → length group ≡ 0 → made ≡ mids ++ one ∷ [] → Fit stores (members kernels group) (reverse made) → ⊥
nobody kernels stores group made mids one none items fits =
    subst (λ (ms : List Made). Fit stores [] ms) (ap reverse items ∙ reverse_snoc mids one) (subst (λ (g : List ℕ). Fit stores (members kernels g) (reverse made)) (nil_from_length group none) fits)
