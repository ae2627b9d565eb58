use Rattle.std.proofs.Common.{◌≡◌, ℕ, suc, ◌+◌, ◌<◌, ◌≤◌, List, length, sym, ap, ◌∙◌, subst, arith, true}
use Rattle.std.specs.Prelude.{All}
use Rattle.std.specs.List.{Contains}
use Rattle.std.proofs.lemmas.Option.{slice_get_within}
use Rattle.sg_pool.specs.Numbers.{place_count, is_live_number, live_count}
use Rattle.sg_store.specs.declared.node.NodeWords.{NodeWords}
use Rattle.sg_store.specs.declared.reach.Full.{Full}
use Rattle.sg_store.specs.StoreWords.{StoreWords}
use Rattle.sg_store.specs.WellFormed.{IsWellFormed}
use Rattle.sg_store.specs.steps.Filling.{IsPlan}
use Rattle.sg_store.proofs.Stepping.{read_as}
use Rattle.sg_store.proofs.Counting.{with_links}
use Rattle.sg_store.proofs.PointerLevel.{opening, within_cap, pool_places, all_linked, slots_within, can_settle, pointer_opened, past_cap}
use Rattle.sg_store.proofs.store.Store.open_pointer.Goals as goal

pub bounds-as_slice-index : goal.bounds-as_slice-index
bounds-as_slice-index c =
    let whole = opening c.args.self.now c.args.index c.args.cap c.args.wanted.now c.args.slots.now (subst IsWellFormed c.self.view_is c.self.invariant)
    (c.paths_tell.ensures.is_slot c.args.self.now.shape) (c.need_counts_live.ensures.live c.args.self.now.shape) c.requires.pointer c.requires.numbers in
    let o = whole.0 in
    omega (arith, slice_get_within c.args.self.now.nodes c.args.index o.kept o.is.has, ap length c.as_slice.ensures.value, ap (λ (s : StoreWords). length s.nodes) c.self.view_is)

pub plan_links-requires-clause-within_cap : goal.plan_links-requires-clause-within_cap
plan_links-requires-clause-within_cap c =
    let whole = opening c.args.self.now c.args.index c.args.cap c.args.wanted.now c.args.slots.now (subst IsWellFormed c.self.view_is c.self.invariant)
    (c.paths_tell.ensures.is_slot c.args.self.now.shape) (c.need_counts_live.ensures.live c.args.self.now.shape) c.requires.pointer c.requires.numbers in
    let o = whole.0 in
    let same : c.index-as_slice-index.result ≡ o.kept =
    read_as c.as_slice.result.now c.args.self.now.nodes c.args.index c.index-as_slice-index.result o.kept (c.as_slice.ensures.value ∙ ap (λ (s : StoreWords). s.nodes) c.self.view_is)
    c.index-as_slice-index.is o.is.has in
    subst (λ (k : NodeWords). live_count k.pool ≤ c.args.cap) (sym same) (within_cap c.args.self.now c.args.index c.args.cap c.args.wanted.now c.args.slots.now o)

pub plan_links-requires-clause-places : goal.plan_links-requires-clause-places
plan_links-requires-clause-places c =
    let whole = opening c.args.self.now c.args.index c.args.cap c.args.wanted.now c.args.slots.now (subst IsWellFormed c.self.view_is c.self.invariant)
    (c.paths_tell.ensures.is_slot c.args.self.now.shape) (c.need_counts_live.ensures.live c.args.self.now.shape) c.requires.pointer c.requires.numbers in
    let o = whole.0 in
    let same : c.index-as_slice-index.result ≡ o.kept =
    read_as c.as_slice.result.now c.args.self.now.nodes c.args.index c.index-as_slice-index.result o.kept (c.as_slice.ensures.value ∙ ap (λ (s : StoreWords). s.nodes) c.self.view_is)
    c.index-as_slice-index.is o.is.has in
    subst (λ (k : NodeWords). place_count k.pool ≡ c.args.cap + 17) (sym same) (pool_places c.args.self.now c.args.index c.args.cap c.args.wanted.now c.args.slots.now o)

pub plan_links-requires-clause-linked : goal.plan_links-requires-clause-linked
plan_links-requires-clause-linked c =
    let whole = opening c.args.self.now c.args.index c.args.cap c.args.wanted.now c.args.slots.now (subst IsWellFormed c.self.view_is c.self.invariant)
    (c.paths_tell.ensures.is_slot c.args.self.now.shape) (c.need_counts_live.ensures.live c.args.self.now.shape) c.requires.pointer c.requires.numbers in
    let o = whole.0 in
    let same : c.index-as_slice-index.result ≡ o.kept =
    read_as c.as_slice.result.now c.args.self.now.nodes c.args.index c.index-as_slice-index.result o.kept (c.as_slice.ensures.value ∙ ap (λ (s : StoreWords). s.nodes) c.self.view_is)
    c.index-as_slice-index.is o.is.has in
    subst (λ (k : NodeWords). (number : ℕ) → Contains k.links (suc number) → is_live_number k.pool number ≡ true) (sym same) (subst (λ (ls : List ℕ). (number : ℕ) → Contains ls (suc number) → is_live_number o.kept.pool number ≡ true) whole.1 (all_linked c.args.self.now c.args.index c.args.cap c.args.wanted.now c.args.slots.now o))

pub plan_links-requires-clause-within : goal.plan_links-requires-clause-within
plan_links-requires-clause-within c =
    let whole = opening c.args.self.now c.args.index c.args.cap c.args.wanted.now c.args.slots.now (subst IsWellFormed c.self.view_is c.self.invariant)
    (c.paths_tell.ensures.is_slot c.args.self.now.shape) (c.need_counts_live.ensures.live c.args.self.now.shape) c.requires.pointer c.requires.numbers in
    let o = whole.0 in
    let same : c.index-as_slice-index.result ≡ o.kept =
    read_as c.as_slice.result.now c.args.self.now.nodes c.args.index c.index-as_slice-index.result o.kept (c.as_slice.ensures.value ∙ ap (λ (s : StoreWords). s.nodes) c.self.view_is)
    c.index-as_slice-index.is o.is.has in
    subst (λ (k : NodeWords). All (λ slot. slot < length k.links) c.args.slots.now) (sym same) (subst (λ (ls : List ℕ). All (λ slot. slot < length ls) c.args.slots.now) whole.1 (slots_within c.args.self.now c.args.index c.args.cap c.args.wanted.now c.args.slots.now o))

pub returns-then-plan-clause-full : goal.returns-then-plan-clause-full
returns-then-plan-clause-full c =
    let whole = opening c.args.self.now c.args.index c.args.cap c.args.wanted.now c.args.slots.now (subst IsWellFormed c.self.view_is c.self.invariant)
    (c.paths_tell.ensures.is_slot c.args.self.now.shape) (c.need_counts_live.ensures.live c.args.self.now.shape) c.requires.pointer c.requires.numbers in
    let o = whole.0 in
    let same : c.index-as_slice-index.result ≡ o.kept =
    read_as c.as_slice.result.now c.args.self.now.nodes c.args.index c.index-as_slice-index.result o.kept (c.as_slice.ensures.value ∙ ap (λ (s : StoreWords). s.nodes) c.self.view_is)
    c.index-as_slice-index.is o.is.has in
    let plan : IsPlan (with_links o.kept o.links) c.args.cap c.args.slots.now c.in_ok-plan.plan =
    subst (λ (ls : List ℕ). IsPlan (with_links o.kept ls) c.args.cap c.args.slots.now c.in_ok-plan.plan) (sym whole.1)
    (subst (λ (k : NodeWords). IsPlan k c.args.cap c.args.slots.now c.in_ok-plan.plan) same c.in_ok-plan.ensures) in
    let one : c.args.index + 1 ≡ suc c.args.index = omega arith in
    (ap (λ n. full_at n c.args.cap) one, past_cap c.args.self.now c.args.index c.args.cap c.args.wanted.now c.args.slots.now c.in_ok-plan.plan o plan c.if-plan.true)
  where
    full_at : ℕ → ℕ → Full
    full_at n m = record { node = n; cap = m }

pub settle_plan-requires-clause-there : goal.settle_plan-requires-clause-there
settle_plan-requires-clause-there c =
    let whole = opening c.args.self.now c.args.index c.args.cap c.args.wanted.now c.args.slots.now (subst IsWellFormed c.self.view_is c.self.invariant)
    (c.paths_tell.ensures.is_slot c.args.self.now.shape) (c.need_counts_live.ensures.live c.args.self.now.shape) c.requires.pointer c.requires.numbers in
    let o = whole.0 in
    slice_get_within c.args.self.now.nodes c.args.index o.kept o.is.has

pub settle_plan-requires-clause-can : goal.settle_plan-requires-clause-can
settle_plan-requires-clause-can c =
    let whole = opening c.args.self.now c.args.index c.args.cap c.args.wanted.now c.args.slots.now (subst IsWellFormed c.self.view_is c.self.invariant)
    (c.paths_tell.ensures.is_slot c.args.self.now.shape) (c.need_counts_live.ensures.live c.args.self.now.shape) c.requires.pointer c.requires.numbers in
    let o = whole.0 in
    let same : c.index-as_slice-index.result ≡ o.kept =
    read_as c.as_slice.result.now c.args.self.now.nodes c.args.index c.index-as_slice-index.result o.kept (c.as_slice.ensures.value ∙ ap (λ (s : StoreWords). s.nodes) c.self.view_is)
    c.index-as_slice-index.is o.is.has in
    let plan : IsPlan (with_links o.kept o.links) c.args.cap c.args.slots.now c.in_ok-plan.plan =
    subst (λ (ls : List ℕ). IsPlan (with_links o.kept ls) c.args.cap c.args.slots.now c.in_ok-plan.plan) (sym whole.1)
    (subst (λ (k : NodeWords). IsPlan k c.args.cap c.args.slots.now c.in_ok-plan.plan) same c.in_ok-plan.ensures) in
    can_settle c.args.self.now c.args.index c.args.cap c.args.wanted.now c.args.slots.now c.in_ok-plan.plan o whole.1 whole.2 plan c.if-plan.false

pub returns-clause-opened : goal.returns-clause-opened
returns-clause-opened c =
    let whole = opening c.args.self.now c.args.index c.args.cap c.args.wanted.now c.args.slots.now (subst IsWellFormed c.self.view_is c.self.invariant)
    (c.paths_tell.ensures.is_slot c.args.self.now.shape) (c.need_counts_live.ensures.live c.args.self.now.shape) c.requires.pointer c.requires.numbers in
    let o = whole.0 in
    let same : c.index-as_slice-index.result ≡ o.kept =
    read_as c.as_slice.result.now c.args.self.now.nodes c.args.index c.index-as_slice-index.result o.kept (c.as_slice.ensures.value ∙ ap (λ (s : StoreWords). s.nodes) c.self.view_is)
    c.index-as_slice-index.is o.is.has in
    let plan : IsPlan (with_links o.kept o.links) c.args.cap c.args.slots.now c.in_ok-plan.plan =
    subst (λ (ls : List ℕ). IsPlan (with_links o.kept ls) c.args.cap c.args.slots.now c.in_ok-plan.plan) (sym whole.1)
    (subst (λ (k : NodeWords). IsPlan k c.args.cap c.args.slots.now c.in_ok-plan.plan) same c.in_ok-plan.ensures) in
    (pointer_opened c.args.self.now c.settle_plan.new.self c.args.index c.args.cap c.args.wanted.now c.args.slots.now c.in_ok-plan.plan o whole.1 whole.2 plan c.if-plan.false c.settle_plan.ensures).0

pub returns-clause-keeps : goal.returns-clause-keeps
returns-clause-keeps c =
    let whole = opening c.args.self.now c.args.index c.args.cap c.args.wanted.now c.args.slots.now (subst IsWellFormed c.self.view_is c.self.invariant)
    (c.paths_tell.ensures.is_slot c.args.self.now.shape) (c.need_counts_live.ensures.live c.args.self.now.shape) c.requires.pointer c.requires.numbers in
    let o = whole.0 in
    let same : c.index-as_slice-index.result ≡ o.kept =
    read_as c.as_slice.result.now c.args.self.now.nodes c.args.index c.index-as_slice-index.result o.kept (c.as_slice.ensures.value ∙ ap (λ (s : StoreWords). s.nodes) c.self.view_is)
    c.index-as_slice-index.is o.is.has in
    let plan : IsPlan (with_links o.kept o.links) c.args.cap c.args.slots.now c.in_ok-plan.plan =
    subst (λ (ls : List ℕ). IsPlan (with_links o.kept ls) c.args.cap c.args.slots.now c.in_ok-plan.plan) (sym whole.1)
    (subst (λ (k : NodeWords). IsPlan k c.args.cap c.args.slots.now c.in_ok-plan.plan) same c.in_ok-plan.ensures) in
    (pointer_opened c.args.self.now c.settle_plan.new.self c.args.index c.args.cap c.args.wanted.now c.args.slots.now c.in_ok-plan.plan o whole.1 whole.2 plan c.if-plan.false c.settle_plan.ensures).1

pub settle_plan-requires-clause-within : goal.settle_plan-requires-clause-within
settle_plan-requires-clause-within c = c.in_ok-plan.ensures.filled.enough
