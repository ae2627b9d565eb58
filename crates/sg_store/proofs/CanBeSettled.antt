-- Links and masks that a node may be given can be given: there is a store with them, well-formed, and open one node further.
use Rattle.std.proofs.Common.{◌≡◌, ℕ, zero, suc, ◌+◌, ◌-◌, ◌<◌, ◌≤◌, nat_le, Bool, true, false, cond, List, [], ◌∷◌, ◌++◌, length, take, get_or, refl, sym, ap, ◌∙◌, subst, arith, inl, inr}
use Rattle.std.specs.Prelude.{slice_set}
use Rattle.std.proofs.lemmas.Bool.{cases_eq}
use Rattle.std.proofs.lemmas.Bool.Decides.{leb_tells}
use Rattle.std.proofs.lemmas.List.{take_more, get_or_default, get_or_past}
use Rattle.sg_coord.specs.declared.coord.Coord.{Coord}
use Rattle.sg_layout.specs.declared.shape.Kind.TheVariants.{Pointer, Bitmasked}
use Rattle.sg_layout.specs.Live.{kind_at}
use Rattle.sg_layout.specs.PathLaws.{PathIsSlot}
use Rattle.sg_links.specs.Lists.{times}
use Rattle.sg_links.proofs.Uses.{times_same, times_other, one_if}
use Rattle.sg_pool.specs.Numbers.{PoolNumbers, CanSettle, IsSettled, IsParted}
use Rattle.sg_pool.proofs.Uses.{marked, settled_none, settled_one, settled_both, next_is_free}
use Rattle.sg_store.specs.declared.node.NodeWords.{NodeWords}
use Rattle.sg_store.specs.StoreWords.{StoreWords}
use Rattle.sg_store.specs.WellFormed.{IsWellFormed}
use Rattle.sg_store.specs.Reaching.{KeepsCells}
use Rattle.sg_store.specs.Changes.{IsRelinked, IsRemasked, ChangesNode}
use Rattle.sg_store.specs.Opening.{CanSettleSlots, FitsCap, WantedHaveLinks, NewLinksAreWanted, CanSettleBits, WantedHaveBits, NewBitsAreWanted, OpensNode}
use Rattle.sg_store.proofs.AtNumber.{at_number, pool_is}
use Rattle.sg_store.proofs.Settled.{settled_well_formed}
use Rattle.sg_store.proofs.Masked.{masked_well_formed}
use Rattle.sg_store.proofs.SlotsSettled as slots
use Rattle.sg_store.proofs.BitsSettled as bits

-- ── A pool with more numbers live ──

-- the numbers below one that aren't live
abbrev free_below : List Bool → ℕ → List ℕ
free_below live zero = []
free_below live (suc n) = cond (get_or live n false) (free_below live n) (n ∷ free_below live n)

-- each of them stands there once, and no other number
abbrev IsOnce : List Bool → ℕ → ℕ → List ℕ → Type 0
IsOnce live n x list = (x < n → one_if (get_or live x false) + times x list ≡ 1) × (n ≤ x → times x list ≡ 0)

free_next : (live : List Bool) (n x : ℕ) (list : List ℕ) → IsOnce live n x list → IsOnce live (suc n) x (cond (get_or live n false) list (n ∷ list))
free_next live n x list before = go (get_or live n false) refl
  where
    still : times x (n ∷ list) ≡ times x list → one_if (get_or live x false) + times x list ≡ 1 → one_if (get_or live x false) + times x (n ∷ list) ≡ 1
    still same was = omega arith

    go : (b : Bool) → get_or live n false ≡ b → IsOnce live (suc n) x (cond b list (n ∷ list))
    go true on = elim (cases_eq x n) [
      | inl same ↦
          let here : one_if (get_or live x false) ≡ 1 = ap (λ k. one_if (get_or live k false)) same ∙ ap one_if on in
          let none : times x list ≡ 0 = before.1 (omega arith) in
          (λ below. omega arith, λ past. absurd (omega arith))
      | inr other ↦ (λ below. before.0 (omega arith), λ past. before.1 (omega arith))
    ]
    go false off = elim (cases_eq n x) [
      | inl same ↦
          let here : one_if (get_or live x false) ≡ 0 = ap (λ k. one_if (get_or live k false)) (sym same) ∙ ap one_if off in
          let none : times x list ≡ 0 = before.1 (omega arith) in
          let one : times x (n ∷ list) ≡ 1 + times x list = subst (λ k. times k (n ∷ list) ≡ 1 + times k list) same (times_same n list) in
          (λ below. omega arith, λ past. absurd (omega arith))
      | inr other ↦
          let more : times x (n ∷ list) ≡ times x list = times_other x n list other in
          (λ below. still more (before.0 (omega arith)), λ past. more ∙ before.1 (omega arith))
    ]

free_once : (live : List Bool) (n x : ℕ) → IsOnce live n x (free_below live n)
free_once live zero x = (λ below. absurd (omega arith), λ past. refl)
free_once live (suc n) x = free_next live n x (free_below live n) (free_once live n x)

-- so each number of a pool with these on its free list, and its mark at the end, is live, or free once
parted : (live : List Bool) → IsParted (record { live = live; free = free_below live (length live); mark = length live })
parted live = record {
  within = omega arith;
  one_of = λ x. elim (leb_tells (length live) x) [
    | inl past ↦
        let above : one_if (nat_le (length live) x) ≡ 1 = ap one_if past.0 in
        let off : one_if (get_or live x false) ≡ 0 = ap one_if (get_or_past live x false past.1) in
        let none : times x (free_below live (length live)) ≡ 0 = (free_once live (length live) x).1 past.1 in
        let all : one_if (get_or live x false) + times x (free_below live (length live)) + one_if (nat_le (length live) x) ≡ 1 = omega arith in
        all
    | inr before ↦
        let under : one_if (nat_le (length live) x) ≡ 0 = ap one_if before.0 in
        let one : one_if (get_or live x false) + times x (free_below live (length live)) ≡ 1 = (free_once live (length live) x).0 before.1 in
        let all : one_if (get_or live x false) + times x (free_below live (length live)) + one_if (nat_le (length live) x) ≡ 1 = omega arith in
        all
  ];
}

-- numbers that can be taken, taken one after another
settle_some : (pool : PoolNumbers) (taken : List ℕ) (i : ℕ) → CanSettle pool taken → i ≤ length taken → (new : PoolNumbers) × IsSettled pool new (take i taken)
settle_some pool taken zero can within = (pool, settled_none pool)
settle_some pool taken (suc i) can within =
    let before = settle_some pool taken i can (omega arith) in
    let number = get_or taken i 0 in
    let next : i + 1 ≡ suc i = omega arith in
    let more : take (suc i) taken ≡ take i taken ++ number ∷ [] = subst (λ k. take k taken ≡ take i taken ++ number ∷ []) next (take_more taken i 0 within) in
    let free = next_is_free pool before.0 taken i number can before.1 within (get_or_default taken i 0 number within) in
    (marked before.0 number, subst (λ l. IsSettled pool (marked before.0 number) l) (sym more) (settled_both pool before.0 (marked before.0 number) (take i taken) (number ∷ []) before.1 (settled_one before.0 number free)))

settle_all : (pool : PoolNumbers) (taken : List ℕ) → CanSettle pool taken → (new : PoolNumbers) × IsSettled pool new taken × IsParted new
settle_all pool taken can =
    let found = settle_some pool taken (length taken) can (omega arith) in
    let live = found.0.live in
    let settled : IsSettled pool found.0 taken = subst (λ l. IsSettled pool found.0 l) (whole taken) found.1 in (
      record { live = live; free = free_below live (length live); mark = length live },
      record { places = settled.places; live = settled.live; count = settled.count },
      parted live,
    )
  where
    whole : (xs : List ℕ) → take (length xs) xs ≡ xs
    whole [] = refl
    whole (x ∷ xs) = ap (λ l. x ∷ l) (whole xs)

-- ── A store with other words at one node ──

-- a store with one node's words changed, and open there for what is wanted, if the new words are such
pub record HasSettled (Change : NodeWords → NodeWords → Type 0) (Opens : List Coord → Type 0) (store : StoreWords) (number : ℕ) : Type 0 where
  pub now : StoreWords
  pub changed : ChangesNode Change store now (number - 1)
  pub well_formed : IsWellFormed now
  pub keeps : KeepsCells store now
  pub opened : (wanted : List Coord) → Opens wanted → OpensNode store now number wanted

-- each wanted coordinate's slot has a link, and each new link is in such a slot
abbrev pub OpensSlots : StoreWords → ℕ → List ℕ → List Coord → Type 0
OpensSlots store number links wanted = WantedHaveLinks store number links wanted × NewLinksAreWanted store number links wanted

-- likewise of bits
abbrev pub OpensBits : StoreWords → ℕ → List ℕ → List Coord → Type 0
OpensBits store number masks wanted = WantedHaveBits store number masks wanted × NewBitsAreWanted store number masks wanted

pub slots_can_be_settled : (store : StoreWords) (number : ℕ) (links taken : List ℕ) → IsWellFormed store → PathIsSlot store.shape → 1 ≤ number → kind_at store.shape.nodes number ≡ Pointer
    → CanSettleSlots store number links taken → FitsCap store number taken → HasSettled (IsRelinked links taken) (OpensSlots store number links) store number
slots_can_be_settled store number links taken well paths first pointer can fits =
    let at = at_number store well number first (λ dense. cc (sym pointer ∙ dense)) in
    let i = number - 1 in
    let node = at.0 in
    let kept = at.1 in
    let is = at.2 in
    let kind = sym at.3 ∙ pointer in
    let free : CanSettle kept.pool taken = subst (λ p. CanSettle p taken) (pool_is store number i node kept is) can.free in
    let pool = settle_all kept.pool taken free in
    let after : NodeWords = record kept { links = links; pool = pool.0 } in
    let now : StoreWords = record store { nodes = slice_set store.nodes i after } in
    let relinked : IsRelinked links taken kept after = record { new_links = refl; pool = pool.1; parted = pool.2; same_keys = refl; same_masks = refl; same_lengths = refl; same_chains = refl } in
    let changed : ChangesNode (IsRelinked links taken) store now i = record { kept = kept; was = is.has; after = after; change = relinked; now_is = refl } in
    record {
      now = now;
      changed = changed;
      well_formed = settled_well_formed store i links taken (slice_set store.nodes i after) well (slots.can_settle store number i node kept links taken is kind can fits)
          (record { kept = kept; was = is.has; after = after; change = relinked; now_is = refl });
      keeps = slots.slots_keep store now number i node kept links taken is kind can fits changed;
      opened = λ wanted opens. slots.slots_open store now number i node kept links taken wanted is paths kind can fits changed opens.0 opens.1;
    }

pub bits_can_be_settled : (store : StoreWords) (number : ℕ) (masks : List ℕ) → IsWellFormed store → PathIsSlot store.shape → 1 ≤ number → kind_at store.shape.nodes number ≡ Bitmasked
    → CanSettleBits store number masks → HasSettled (IsRemasked masks) (OpensBits store number masks) store number
bits_can_be_settled store number masks well paths first masked can =
    let at = at_number store well number first (λ dense. cc (sym masked ∙ dense)) in
    let i = number - 1 in
    let node = at.0 in
    let kept = at.1 in
    let is = at.2 in
    let kind = sym at.3 ∙ masked in
    let after : NodeWords = record kept { masks = masks } in
    let now : StoreWords = record store { nodes = slice_set store.nodes i after } in
    let remasked : IsRemasked masks kept after = record { new_masks = refl; same_keys = refl; same_links = refl; same_lengths = refl; same_chains = refl; same_pool = refl } in
    let changed : ChangesNode (IsRemasked masks) store now i = record { kept = kept; was = is.has; after = after; change = remasked; now_is = refl } in
    record {
      now = now;
      changed = changed;
      well_formed = masked_well_formed store i masks (slice_set store.nodes i after) well (bits.can_settle store number i node kept masks is kind can)
          (record { kept = kept; was = is.has; after = after; change = remasked; now_is = refl });
      keeps = bits.bits_keep store now number i node kept masks is kind can changed;
      opened = λ wanted opens. bits.bits_open store now number i node kept masks wanted is paths kind can changed opens.0 opens.1;
    }
