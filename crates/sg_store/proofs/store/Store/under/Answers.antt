use Rattle.std.proofs.Common.{◌≡◌, ◌+◌, ◌*◌, ◌≤◌, ◌++◌, ◌∷◌, [], List, ◌∙◌, ℕ, suc, ap, sym, subst, arith, inr, ◌⊎◌, refl}
use Rattle.std.specs.Prelude.{Option, Some, None, IfNone, is_some, slice_index}
use Rattle.sg_layout.specs.Axes.{sizes_of}
use Rattle.sg_store.specs.declared.spot.Spot.{Spot}
use Rattle.sg_store.specs.declared.frame.NodeWidths.{NodeWidths}
use Rattle.sg_store.specs.StoreWords.{StoreWords}
use Rattle.sg_store.specs.Walks.{cell_along}
use Rattle.sg_store.specs.WellFormed.{IsWellFormed}
use Rattle.sg_store.specs.Spots.{LeadsAlong}
use Rattle.sg_store.specs.steps.Widths.{IsWidths}
use Rattle.sg_store.proofs.SpotPlaces as lemmas
use Rattle.sg_store.proofs.SpotWidths as widths_of
use Rattle.sg_store.proofs.store.Store.under.Goals as goal

pub returns-then-is_dense-clause-below : goal.returns-then-is_dense-clause-below
returns-then-is_dense-clause-below c = λ path along.
    let store : StoreWords = c.args.self.now in
    let spot : Spot = c.args.spot in
    let widths : NodeWidths = c.widths-widths.result in
    let is : IsWidths store.shape.nodes spot.node widths = subst (λ (s : StoreWords). IsWidths s.shape.nodes spot.node widths) c.self.view_is c.widths-widths.ensures in
    let step = widths_of.stepping_of store spot path c.args.offset widths (subst IsWellFormed c.self.view_is c.self.invariant) along c.requires.not_last is c.if-offset-widths.false in
    widths_of.spot_within store spot path c.args.offset widths c.within.result is step (c.is_dense.ensures.0 c.if-is_dense.true) c.within.ensures

pub returns-then-is_dense-clause-live : goal.returns-then-is_dense-clause-live
returns-then-is_dense-clause-live c = λ flat stands path along.
    let store : StoreWords = c.args.self.now in
    let spot : Spot = c.args.spot in
    let widths : NodeWidths = c.widths-widths.result in
    let is : IsWidths store.shape.nodes spot.node widths = subst (λ (s : StoreWords). IsWidths s.shape.nodes spot.node widths) c.self.view_is c.widths-widths.ensures in
    let step = widths_of.stepping_of store spot path c.args.offset widths (subst IsWellFormed c.self.view_is c.self.invariant) along c.requires.not_last is c.if-offset-widths.false in
    lemmas.step_live store flat spot path c.args.offset _ _ widths.size (Some ((spot.part * widths.before + spot.slot) * widths.size + c.args.offset)) (Some c.within.result) step stands
    (widths_of.dense_leads store spot path c.args.offset widths is step (c.is_dense.ensures.0 c.if-is_dense.true)) refl

pub onward-requires-clause-fits : goal.onward-requires-clause-fits
onward-requires-clause-fits c =
    let store : StoreWords = c.args.self.now in
    let spot : Spot = c.args.spot in
    let widths : NodeWidths = c.widths-widths.result in
    let is : IsWidths store.shape.nodes spot.node widths = subst (λ (s : StoreWords). IsWidths s.shape.nodes spot.node widths) c.self.view_is c.widths-widths.ensures in
    let step = widths_of.stepping_of store spot c.requires.leads.0 c.args.offset widths (subst IsWellFormed c.self.view_is c.self.invariant) c.requires.leads.1 c.requires.not_last is c.if-offset-widths.false in
    lemmas.step_fits store spot c.requires.leads.0 c.args.offset _ _ _ step

pub returns-in_err-below-clause-none : goal.returns-in_err-below-clause-none
returns-in_err-below-clause-none c =
    subst (λ (below : Option Spot). IfNone below ((path : List ℕ) → LeadsAlong c.args.self.now c.args.spot path → (slice_index (sizes_of c.args.self.now.shape.nodes) c.args.spot.node ≤ c.args.offset) ⊎ (cell_along c.args.self.now (path ++ c.args.offset ∷ []) ≡ None)))
    (sym c.from_residual.ensures) (λ path along.
    let store : StoreWords = c.args.self.now in
    let spot : Spot = c.args.spot in
    let widths : NodeWidths = c.widths-widths.result in
    let is : IsWidths store.shape.nodes spot.node widths = subst (λ (s : StoreWords). IsWidths s.shape.nodes spot.node widths) c.self.view_is c.widths-widths.ensures in
    let step = widths_of.stepping_of store spot path c.args.offset widths (subst IsWellFormed c.self.view_is c.self.invariant) along c.requires.not_last is c.if-offset-widths.false in
    let leads : cell_along store (path ++ c.args.offset ∷ []) ≡ c.onward.result = lemmas.step_along store spot path c.args.offset _ _ _ c.onward.result step c.onward.ensures in
    inr (leads ∙ c.in_err-below.was))

pub returns-in_err-below-clause-live : goal.returns-in_err-below-clause-live
returns-in_err-below-clause-live c = λ flat stands path along.
    let store : StoreWords = c.args.self.now in
    let spot : Spot = c.args.spot in
    let widths : NodeWidths = c.widths-widths.result in
    let is : IsWidths store.shape.nodes spot.node widths = subst (λ (s : StoreWords). IsWidths s.shape.nodes spot.node widths) c.self.view_is c.widths-widths.ensures in
    let step = widths_of.stepping_of store spot path c.args.offset widths (subst IsWellFormed c.self.view_is c.self.invariant) along c.requires.not_last is c.if-offset-widths.false in
    let leads : cell_along store (path ++ c.args.offset ∷ []) ≡ c.onward.result = lemmas.step_along store spot path c.args.offset _ _ _ c.onward.result step c.onward.ensures in
    lemmas.step_live store flat spot path c.args.offset _ _ _ c.onward.result c.from_residual.result step stands leads
    (ap is_some c.from_residual.ensures ∙ sym (ap is_some c.in_err-below.was))

pub past-requires-clause-found : goal.past-requires-clause-found
past-requires-clause-found c =
    let store : StoreWords = c.args.self.now in
    let spot : Spot = c.args.spot in
    let widths : NodeWidths = c.widths-widths.result in
    let is : IsWidths store.shape.nodes spot.node widths = subst (λ (s : StoreWords). IsWidths s.shape.nodes spot.node widths) c.self.view_is c.widths-widths.ensures in
    let step = widths_of.stepping_of store spot c.requires.leads.0 c.args.offset widths (subst IsWellFormed c.self.view_is c.self.invariant) c.requires.leads.1 c.requires.not_last is c.if-offset-widths.false in
    let leads : cell_along store (c.requires.leads.0 ++ c.args.offset ∷ []) ≡ c.onward.result = lemmas.step_along store spot c.requires.leads.0 c.args.offset _ _ _ c.onward.result step c.onward.ensures in
    widths_of.found_at store spot c.requires.leads.0 c.args.offset c.in_ok-below.below widths (c.rules_decide.ensures.accepted store.shape) is step (leads ∙ c.in_ok-below.was)

pub returns-clause-below : goal.returns-clause-below
returns-clause-below c = λ path along.
    let store : StoreWords = c.args.self.now in
    let spot : Spot = c.args.spot in
    let widths : NodeWidths = c.widths-widths.result in
    let is : IsWidths store.shape.nodes spot.node widths = subst (λ (s : StoreWords). IsWidths s.shape.nodes spot.node widths) c.self.view_is c.widths-widths.ensures in
    let step = widths_of.stepping_of store spot path c.args.offset widths (subst IsWellFormed c.self.view_is c.self.invariant) along c.requires.not_last is c.if-offset-widths.false in
    let leads : cell_along store (path ++ c.args.offset ∷ []) ≡ c.onward.result = lemmas.step_along store spot path c.args.offset _ _ _ c.onward.result step c.onward.ensures in
    let going = lemmas.going_of store spot path c.args.offset _ _ _ step in
    let next : c.past.result.node ≡ suc spot.node = omega (arith, c.past.ensures.node) in
    lemmas.spot_below store spot path c.args.offset going.0 going.1 c.in_ok-below.below widths.after c.past.result going.2 (leads ∙ c.in_ok-below.was)
    is.after_is next c.past.ensures.place c.past.ensures.within

pub returns-clause-live : goal.returns-clause-live
returns-clause-live c = λ flat stands path along.
    let store : StoreWords = c.args.self.now in
    let spot : Spot = c.args.spot in
    let widths : NodeWidths = c.widths-widths.result in
    let is : IsWidths store.shape.nodes spot.node widths = subst (λ (s : StoreWords). IsWidths s.shape.nodes spot.node widths) c.self.view_is c.widths-widths.ensures in
    let step = widths_of.stepping_of store spot path c.args.offset widths (subst IsWellFormed c.self.view_is c.self.invariant) along c.requires.not_last is c.if-offset-widths.false in
    let leads : cell_along store (path ++ c.args.offset ∷ []) ≡ c.onward.result = lemmas.step_along store spot path c.args.offset _ _ _ c.onward.result step c.onward.ensures in
    lemmas.step_live store flat spot path c.args.offset _ _ _ c.onward.result (Some c.past.result) step stands leads (sym (ap is_some c.in_ok-below.was))
