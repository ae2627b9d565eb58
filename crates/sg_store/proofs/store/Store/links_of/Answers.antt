use Rattle.std.proofs.Common.{◌≡◌, ◌+◌, ◌-◌, ◌*◌, ◌/◌, ◌^◌, ◌<◌, ◌≤◌, ℕ, List, length, refl, sym, ap, ◌∙◌, subst, arith, Vec, Global}
use Rattle.std.specs.Prelude.{slice_index}
use Rattle.sg_layout.specs.declared.shape.NodeShape.{NodeShape}
use Rattle.sg_layout.specs.declared.shape.Shape.{Shape}
use Rattle.sg_store.specs.declared.frame.NodeWidths.{NodeWidths}
use Rattle.sg_store.specs.declared.links.LinkAt.{LinkAt}
use Rattle.sg_store.specs.declared.node.NodeWords.{NodeWords}
use Rattle.sg_store.specs.StoreWords.{StoreWords}
use Rattle.sg_store.specs.WellFormed.{IsWellFormed}
use Rattle.sg_store.specs.Links.{copy_slots}
use Rattle.sg_store.specs.LinkLaws.{AreSound}
use Rattle.sg_store.specs.steps.Noting.{HasSlots, LinksBelow}
use Rattle.sg_store.specs.steps.Widths.{IsWidths}
use Rattle.sg_store.proofs.LinksListed.{below_none, below_skipped, below_marked}
use Rattle.sg_store.proofs.LinkListing.{IsListed, IsNext, node_inside, words_inside, listing_of, some_node, chains_have_room, copy_few, copy_is, next_link, pushed}
use Rattle.sg_store.proofs.store.Store.links_of.Goals as goal
use Rattle.sg_store.proofs.store.Store.links_of.Goals.{then-is_live+in_ok-push, else-is_live}

pub bounds-as_slice-index-2 : goal.bounds-as_slice-index-2
bounds-as_slice-index-2 c =
    let store : StoreWords = c.args.self.now in
    let well : IsWellFormed store = c.layout.ensures.well_formed in
    let words : c.as_slice-2.result.now ≡ store.nodes = c.as_slice-2.ensures.value ∙ ap (λ (s : StoreWords). s.nodes) c.self.view_is in
    subst (λ (ws : List NodeWords). c.args.node - 1 < length ws) (sym words) (words_inside store well c.args.node c.requires.first c.requires.capped)

pub widths-widths-requires : goal.widths-widths-requires
widths-widths-requires c =
    let store : StoreWords = c.args.self.now in
    let well : IsWellFormed store = c.layout.ensures.well_formed in
    let shape : c.self.inside.layout ≡ store.shape = ap (λ (s : StoreWords). s.shape) c.self.view_is in
    subst (λ (s : Shape). c.args.node - 1 < length s.nodes) (sym shape) (node_inside store well c.args.node c.requires.first c.requires.capped)

pub held_slots-requires-clause-node : goal.held_slots-requires-clause-node
held_slots-requires-clause-node c =
    let store : StoreWords = c.args.self.now in
    let well : IsWellFormed store = c.layout.ensures.well_formed in
    let words : c.as_slice-2.result.now ≡ store.nodes = c.as_slice-2.ensures.value ∙ ap (λ (s : StoreWords). s.nodes) c.self.view_is in
    let shape : c.self.inside.layout ≡ store.shape = ap (λ (s : StoreWords). s.shape) c.self.view_is in
    let shapes : c.as_slice.result.now ≡ store.shape.nodes = c.as_slice.ensures ∙ ap (λ (s : Shape). s.nodes) (c.shape.ensures.value ∙ shape) in
    let index : ℕ = c.args.node - 1 in
    let node : NodeShape = c.index-as_slice-index.result in
    let kept : NodeWords = c.index-as_slice-index-2.result in
    let widths : NodeWidths = c.widths-widths.result in
    let listed : IsListed store index node kept widths =
    listing_of store well c.args.node c.requires.first c.requires.capped c.as_slice.result.now c.as_slice-2.result.now shapes words node kept widths c.index-as_slice-index.is c.index-as_slice-index-2.is
    (subst (λ (s : Shape). IsWidths s.nodes index widths) shape c.widths-widths.ensures) in
    some_node store index node kept widths listed

pub held_slots-requires-clause-room : goal.held_slots-requires-clause-room
held_slots-requires-clause-room c =
    let store : StoreWords = c.args.self.now in
    let well : IsWellFormed store = c.layout.ensures.well_formed in
    let words : c.as_slice-2.result.now ≡ store.nodes = c.as_slice-2.ensures.value ∙ ap (λ (s : StoreWords). s.nodes) c.self.view_is in
    let shape : c.self.inside.layout ≡ store.shape = ap (λ (s : StoreWords). s.shape) c.self.view_is in
    let shapes : c.as_slice.result.now ≡ store.shape.nodes = c.as_slice.ensures ∙ ap (λ (s : Shape). s.nodes) (c.shape.ensures.value ∙ shape) in
    let index : ℕ = c.args.node - 1 in
    let node : NodeShape = c.index-as_slice-index.result in
    let kept : NodeWords = c.index-as_slice-index-2.result in
    let widths : NodeWidths = c.widths-widths.result in
    let listed : IsListed store index node kept widths =
    listing_of store well c.args.node c.requires.first c.requires.capped c.as_slice.result.now c.as_slice-2.result.now shapes words node kept widths c.index-as_slice-index.is c.index-as_slice-index-2.is
    (subst (λ (s : Shape). IsWidths s.nodes index widths) shape c.widths-widths.ensures) in
    λ dynamic. subst (λ full. length kept.chains.lists * full ≤ 2 ^ 47) (sym c.full_chain-full.ensures) (chains_have_room store index node kept widths listed dynamic)

pub overflow_mul-copy : goal.overflow_mul-copy
overflow_mul-copy c =
    let store : StoreWords = c.args.self.now in
    let well : IsWellFormed store = c.layout.ensures.well_formed in
    let words : c.as_slice-2.result.now ≡ store.nodes = c.as_slice-2.ensures.value ∙ ap (λ (s : StoreWords). s.nodes) c.self.view_is in
    let shape : c.self.inside.layout ≡ store.shape = ap (λ (s : StoreWords). s.shape) c.self.view_is in
    let shapes : c.as_slice.result.now ≡ store.shape.nodes = c.as_slice.ensures ∙ ap (λ (s : Shape). s.nodes) (c.shape.ensures.value ∙ shape) in
    let index : ℕ = c.args.node - 1 in
    let node : NodeShape = c.index-as_slice-index.result in
    let kept : NodeWords = c.index-as_slice-index-2.result in
    let widths : NodeWidths = c.widths-widths.result in
    let listed : IsListed store index node kept widths =
    listing_of store well c.args.node c.requires.first c.requires.capped c.as_slice.result.now c.as_slice-2.result.now shapes words node kept widths c.index-as_slice-index.is c.index-as_slice-index-2.is
    (subst (λ (s : Shape). IsWidths s.nodes index widths) shape c.widths-widths.ensures) in
    let few : widths.before * c.per_place.result ≤ 2 ^ 30 = subst (λ n. widths.before * n ≤ 2 ^ 30) (sym c.per_place.ensures) (copy_few store index node kept widths listed) in
    omega (arith, few)

pub loop-number-init : goal.loop-number-init
loop-number-init c =
    let store : StoreWords = c.args.self.now in
    let well : IsWellFormed store = c.layout.ensures.well_formed in
    subst (λ (links : List LinkAt). LinksBelow store (c.args.node - 1) 0 links) (sym c.new-links.ensures.items) (below_none store (c.args.node - 1))

pub is_live-requires : goal.is_live-requires
is_live-requires c = omega (arith, c.loop-number-test.true, c.mark-number-end.ensures.mark, c.mark-number-end.ensures.parted.within)

pub link_at-requires-clause-there : goal.link_at-requires-clause-there
link_at-requires-clause-there c =
    omega (arith, c.in_ok-slots.ensures.as_many, c.loop-number-test.true, c.mark-number-end.ensures.mark, c.mark-number-end.ensures.parted.within)

pub link_at-requires-clause-some : goal.link_at-requires-clause-some
link_at-requires-clause-some c =
    let store : StoreWords = c.args.self.now in
    let well : IsWellFormed store = c.layout.ensures.well_formed in
    let words : c.as_slice-2.result.now ≡ store.nodes = c.as_slice-2.ensures.value ∙ ap (λ (s : StoreWords). s.nodes) c.self.view_is in
    let shape : c.self.inside.layout ≡ store.shape = ap (λ (s : StoreWords). s.shape) c.self.view_is in
    let shapes : c.as_slice.result.now ≡ store.shape.nodes = c.as_slice.ensures ∙ ap (λ (s : Shape). s.nodes) (c.shape.ensures.value ∙ shape) in
    let index : ℕ = c.args.node - 1 in
    let node : NodeShape = c.index-as_slice-index.result in
    let kept : NodeWords = c.index-as_slice-index-2.result in
    let widths : NodeWidths = c.widths-widths.result in
    let listed : IsListed store index node kept widths =
    listing_of store well c.args.node c.requires.first c.requires.capped c.as_slice.result.now c.as_slice-2.result.now shapes words node kept widths c.index-as_slice-index.is c.index-as_slice-index-2.is
    (subst (λ (s : Shape). IsWidths s.nodes index widths) shape c.widths-widths.ensures) in
    let copy : widths.before * c.per_place.result ≡ copy_slots store.shape.nodes index node = copy_is store index node kept widths c.per_place.result listed c.per_place.ensures in
    let slots : List ℕ = c.in_ok-slots.slots in
    let has : HasSlots node kept slots = c.in_ok-slots.ensures in
    let next : IsNext store index node slots c.loop-number.number =
    next_link store index node kept widths slots c.loop-number.number listed (c.rules_decide.ensures.accepted store.shape) has (sym c.is_live.ensures ∙ c.if-is_live.true) in
    subst (λ n. 1 ≤ n) (sym copy) next.some

pub link_at-requires-clause-small : goal.link_at-requires-clause-small
link_at-requires-clause-small c =
    let store : StoreWords = c.args.self.now in
    let well : IsWellFormed store = c.layout.ensures.well_formed in
    let words : c.as_slice-2.result.now ≡ store.nodes = c.as_slice-2.ensures.value ∙ ap (λ (s : StoreWords). s.nodes) c.self.view_is in
    let shape : c.self.inside.layout ≡ store.shape = ap (λ (s : StoreWords). s.shape) c.self.view_is in
    let shapes : c.as_slice.result.now ≡ store.shape.nodes = c.as_slice.ensures ∙ ap (λ (s : Shape). s.nodes) (c.shape.ensures.value ∙ shape) in
    let index : ℕ = c.args.node - 1 in
    let node : NodeShape = c.index-as_slice-index.result in
    let kept : NodeWords = c.index-as_slice-index-2.result in
    let widths : NodeWidths = c.widths-widths.result in
    let listed : IsListed store index node kept widths =
    listing_of store well c.args.node c.requires.first c.requires.capped c.as_slice.result.now c.as_slice-2.result.now shapes words node kept widths c.index-as_slice-index.is c.index-as_slice-index-2.is
    (subst (λ (s : Shape). IsWidths s.nodes index widths) shape c.widths-widths.ensures) in
    let few : widths.before * c.per_place.result ≤ 2 ^ 30 = subst (λ n. widths.before * n ≤ 2 ^ 30) (sym c.per_place.ensures) (copy_few store index node kept widths listed) in
    few

pub link_at-requires-clause-few : goal.link_at-requires-clause-few
link_at-requires-clause-few c =
    let store : StoreWords = c.args.self.now in
    let well : IsWellFormed store = c.layout.ensures.well_formed in
    let words : c.as_slice-2.result.now ≡ store.nodes = c.as_slice-2.ensures.value ∙ ap (λ (s : StoreWords). s.nodes) c.self.view_is in
    let shape : c.self.inside.layout ≡ store.shape = ap (λ (s : StoreWords). s.shape) c.self.view_is in
    let shapes : c.as_slice.result.now ≡ store.shape.nodes = c.as_slice.ensures ∙ ap (λ (s : Shape). s.nodes) (c.shape.ensures.value ∙ shape) in
    let index : ℕ = c.args.node - 1 in
    let node : NodeShape = c.index-as_slice-index.result in
    let kept : NodeWords = c.index-as_slice-index-2.result in
    let widths : NodeWidths = c.widths-widths.result in
    let listed : IsListed store index node kept widths =
    listing_of store well c.args.node c.requires.first c.requires.capped c.as_slice.result.now c.as_slice-2.result.now shapes words node kept widths c.index-as_slice-index.is c.index-as_slice-index-2.is
    (subst (λ (s : Shape). IsWidths s.nodes index widths) shape c.widths-widths.ensures) in
    let copy : widths.before * c.per_place.result ≡ copy_slots store.shape.nodes index node = copy_is store index node kept widths c.per_place.result listed c.per_place.ensures in
    let slots : List ℕ = c.in_ok-slots.slots in
    let has : HasSlots node kept slots = c.in_ok-slots.ensures in
    let next : IsNext store index node slots c.loop-number.number =
    next_link store index node kept widths slots c.loop-number.number listed (c.rules_decide.ensures.accepted store.shape) has (sym c.is_live.ensures ∙ c.if-is_live.true) in
    subst (λ n. slice_index slots c.loop-number.number / n + 1 < 2 ^ 32) (sym copy) next.few

pub link_at-requires-clause-root : goal.link_at-requires-clause-root
link_at-requires-clause-root c =
    let store : StoreWords = c.args.self.now in
    let well : IsWellFormed store = c.layout.ensures.well_formed in
    let words : c.as_slice-2.result.now ≡ store.nodes = c.as_slice-2.ensures.value ∙ ap (λ (s : StoreWords). s.nodes) c.self.view_is in
    let shape : c.self.inside.layout ≡ store.shape = ap (λ (s : StoreWords). s.shape) c.self.view_is in
    let shapes : c.as_slice.result.now ≡ store.shape.nodes = c.as_slice.ensures ∙ ap (λ (s : Shape). s.nodes) (c.shape.ensures.value ∙ shape) in
    let index : ℕ = c.args.node - 1 in
    let node : NodeShape = c.index-as_slice-index.result in
    let kept : NodeWords = c.index-as_slice-index-2.result in
    let widths : NodeWidths = c.widths-widths.result in
    let listed : IsListed store index node kept widths =
    listing_of store well c.args.node c.requires.first c.requires.capped c.as_slice.result.now c.as_slice-2.result.now shapes words node kept widths c.index-as_slice-index.is c.index-as_slice-index-2.is
    (subst (λ (s : Shape). IsWidths s.nodes index widths) shape c.widths-widths.ensures) in
    let copy : widths.before * c.per_place.result ≡ copy_slots store.shape.nodes index node = copy_is store index node kept widths c.per_place.result listed c.per_place.ensures in
    let slots : List ℕ = c.in_ok-slots.slots in
    let has : HasSlots node kept slots = c.in_ok-slots.ensures in
    let next : IsNext store index node slots c.loop-number.number =
    next_link store index node kept widths slots c.loop-number.number listed (c.rules_decide.ensures.accepted store.shape) has (sym c.is_live.ensures ∙ c.if-is_live.true) in
    λ none. subst (λ n. slice_index slots c.loop-number.number < n) (sym copy) (next.root (sym c.has_parent-above.ensures ∙ none))

pub loop-number-preserved : goal.loop-number-preserved
loop-number-preserved c =
    let store : StoreWords = c.args.self.now in
    let well : IsWellFormed store = c.layout.ensures.well_formed in
    let words : c.as_slice-2.result.now ≡ store.nodes = c.as_slice-2.ensures.value ∙ ap (λ (s : StoreWords). s.nodes) c.self.view_is in
    let shape : c.self.inside.layout ≡ store.shape = ap (λ (s : StoreWords). s.shape) c.self.view_is in
    let shapes : c.as_slice.result.now ≡ store.shape.nodes = c.as_slice.ensures ∙ ap (λ (s : Shape). s.nodes) (c.shape.ensures.value ∙ shape) in
    let index : ℕ = c.args.node - 1 in
    let node : NodeShape = c.index-as_slice-index.result in
    let kept : NodeWords = c.index-as_slice-index-2.result in
    let widths : NodeWidths = c.widths-widths.result in
    let listed : IsListed store index node kept widths =
    listing_of store well c.args.node c.requires.first c.requires.capped c.as_slice.result.now c.as_slice-2.result.now shapes words node kept widths c.index-as_slice-index.is c.index-as_slice-index-2.is
    (subst (λ (s : Shape). IsWidths s.nodes index widths) shape c.widths-widths.ensures) in
    let copy : widths.before * c.per_place.result ≡ copy_slots store.shape.nodes index node = copy_is store index node kept widths c.per_place.result listed c.per_place.ensures in
    let slots : List ℕ = c.in_ok-slots.slots in
    let has : HasSlots node kept slots = c.in_ok-slots.ensures in
    let sound : AreSound store index = c.links_are_sound.ensures store well index node listed.at listed.capped in
    elim c.if-is_live.branch [
      | then-is_live+in_ok-push w ↦
          let next : IsNext store index node slots c.loop-number.number =
          next_link store index node kept widths slots c.loop-number.number listed (c.rules_decide.ensures.accepted store.shape) has (sym c.is_live.ensures ∙ w.if-is_live.true) in
          subst (λ (links : List LinkAt). LinksBelow store index (c.loop-number.number + 1) links) (sym (ap (λ (v : Vec LinkAt Global). v.items) w.links-is ∙ w.in_ok-push.ensures.items))
          (pushed store index node slots c.loop-number.links.items c.loop-number.number (slice_index slots c.loop-number.number) (widths.before * c.per_place.result) c.has_parent-above.result w.link_at.result
          sound next c.has_parent-above.ensures copy refl w.link_at.ensures c.loop-number.invariant)
      | else-is_live w ↦
          subst (λ (links : List LinkAt). LinksBelow store index (c.loop-number.number + 1) links) (sym (ap (λ (v : Vec LinkAt Global). v.items) w.links-is))
          (below_skipped store index c.loop-number.number kept c.loop-number.links.items sound listed.has (sym c.is_live.ensures ∙ w.if-is_live.false) c.loop-number.invariant)
    ]

pub returns : goal.returns
returns c =
    let store : StoreWords = c.args.self.now in
    let well : IsWellFormed store = c.layout.ensures.well_formed in
    let words : c.as_slice-2.result.now ≡ store.nodes = c.as_slice-2.ensures.value ∙ ap (λ (s : StoreWords). s.nodes) c.self.view_is in
    let shape : c.self.inside.layout ≡ store.shape = ap (λ (s : StoreWords). s.shape) c.self.view_is in
    let shapes : c.as_slice.result.now ≡ store.shape.nodes = c.as_slice.ensures ∙ ap (λ (s : Shape). s.nodes) (c.shape.ensures.value ∙ shape) in
    let index : ℕ = c.args.node - 1 in
    let node : NodeShape = c.index-as_slice-index.result in
    let kept : NodeWords = c.index-as_slice-index-2.result in
    let widths : NodeWidths = c.widths-widths.result in
    let listed : IsListed store index node kept widths =
    listing_of store well c.args.node c.requires.first c.requires.capped c.as_slice.result.now c.as_slice-2.result.now shapes words node kept widths c.index-as_slice-index.is c.index-as_slice-index-2.is
    (subst (λ (s : Shape). IsWidths s.nodes index widths) shape c.widths-widths.ensures) in
    let sound : AreSound store index = c.links_are_sound.ensures store well index node listed.at listed.capped in
    below_marked store index kept c.loop-number.links.items c.mark-number-end.result sound listed.has c.mark-number-end.ensures.parted c.mark-number-end.ensures.mark
    (subst (λ n. LinksBelow store index n c.loop-number.links.items) (omega (arith, c.loop-number-test.false, c.loop-number.auto.number-end)) c.loop-number.invariant)
