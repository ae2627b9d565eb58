-- A descent's end as a whole: what it answers, and what it leaves of the store.
use Rattle.std.proofs.Common.{◌≡◌, ℕ, suc, ◌+◌, ◌-◌, List, ◌++◌, length, sym, ap, ◌∙◌, subst, arith}
use Rattle.std.specs.Prelude.{Some, Ok, Err, slice_get}
use Rattle.sg_words.specs.declared.race.Worker.{Worker}
use Rattle.sg_coord.specs.declared.coord.Coord.{Coord}
use Rattle.sg_layout.specs.declared.shape.Kind.TheVariants.{Dense, Pointer}
use Rattle.sg_layout.specs.declared.shape.Shape.{Shape}
use Rattle.sg_layout.specs.Live.{kind_or, kind_at}
use Rattle.sg_layout.specs.Need.{first_full}
use Rattle.sg_layout.specs.NeedLaws.{IsNumberedNode}
use Rattle.sg_store.specs.StoreWords.{StoreWords}
use Rattle.sg_store.specs.Reaching.{IsOpenThrough}
use Rattle.sg_store.specs.OpeningLaws.{FullIsFirst}
use Rattle.sg_store.proofs.Uses.{NeedLaws}
use Rattle.sg_activate.specs.declared.fault.ActFault.{ActFault}
use Rattle.sg_activate.specs.declared.descent.rule.Start.{Start}
use Rattle.sg_activate.specs.declared.descent.level.Level.{Level}
use Rattle.sg_activate.specs.Activating.{unless_full}
use Rattle.sg_activate.specs.Descending.{open_before, last_fused, first_link_full, FitsSeat}
use Rattle.sg_activate.specs.steps.DescentEnds.{HasGot, IsEnding, IsFirstOverFull}
use Rattle.sg_activate.proofs.DescentEnding.{over_is_full}
use Rattle.sg_activate.proofs.DescentFull.{link_full_from, open_has_room}
use Rattle.sg_activate.proofs.DescentNodes.{layout_kind}
use Rattle.sg_activate.proofs.DescentNumbers.{node_there}

module _ (start : Start) (base : ℕ) (levels : List Level) (v : Worker) (links masks : List ℕ) (store : StoreWords) (e : IsEnding start base levels v links masks store) where
  -- the node that a refusal names is the first of all that is too full
  first_is : ((any : StoreWords) → FullIsFirst any) → (fault : ActFault) (over : IsFirstOverFull start base levels links fault) → (before wanted : List Coord) → FitsSeat start v wanted → IsOpenThrough store before (before ++ wanted) (open_before store.shape)
      → first_full store.shape (before ++ wanted) ≡ Some (record { node = suc (base + over.k); cap = over.over.cap })
  first_is full fault over before wanted fits was_open =
      let number = suc (base + over.k) in
      let pointer : kind_at store.shape.nodes number ≡ Pointer = sym (layout_kind start base levels v links masks store e number) ∙ over.over.pointer in
      let node = node_there store.shape.nodes number Pointer pointer (λ (e : Pointer ≡ Dense). (cc)) in
      let here : IsNumberedNode store.shape number node.0 = record { first = omega arith; there = node.1 } in
      let cap = over.over.cap_is node.0 (subst (λ (s : Shape). IsNumberedNode s number node.0) (sym e.given.same_shape) here) in
      over_is_full start base levels v links masks store e full over.k over.over.there over.before pointer over.over.past node.0 here before wanted fits was_open
      ∙ ap (λ c. Some (record { node = number; cap = c })) (sym cap)

  pub refused_full : ((any : StoreWords) → FullIsFirst any) → (fault : ActFault) → IsFirstOverFull start base levels links fault → (before wanted : List Coord) → FitsSeat start v wanted → IsOpenThrough store before (before ++ wanted) (open_before store.shape)
      → unless_full (first_full store.shape (before ++ wanted)) ≡ Err fault
  refused_full full fault over before wanted fits was_open = ap unless_full (first_is full fault over before wanted fits was_open) ∙ ap Err (sym over.over.named)

  -- and the first pointer node
  pub refused_link : ((any : StoreWords) → FullIsFirst any) → (fault : ActFault) → IsFirstOverFull start base levels links fault → (before wanted : List Coord) → FitsSeat start v wanted → IsOpenThrough store before (before ++ wanted) (open_before store.shape)
      → unless_full (first_link_full store.shape (before ++ wanted)) ≡ Err fault
  refused_link full fault over before wanted fits was_open =
      let number = suc (base + over.k) in
      let pointer : kind_at store.shape.nodes number ≡ Pointer = sym (layout_kind start base levels v links masks store e number) ∙ over.over.pointer in
      ap unless_full (link_full_from store.shape (before ++ wanted) 1 number over.over.cap store.shape.nodes (first_is full fault over before wanted fits was_open)
      (λ j node at is. let back : number - 1 ≡ j = omega arith in sym (ap (λ i. kind_or (slice_get store.shape.nodes i)) back ∙ ap kind_or at) ∙ pointer))
      ∙ ap Err (sym over.over.named)

  -- where nothing is refused no need passes a cap, and all nodes are open down to the last with links or bits
  module _ (now : StoreWords) (g : HasGot start base v links masks store now (length levels)) where
    pub accepted : NeedLaws now.shape → (before wanted : List Coord) → FitsSeat start v wanted → IsOpenThrough store before (before ++ wanted) (open_before store.shape) → unless_full (first_link_full store.shape (before ++ wanted)) ≡ Ok tt
    accepted laws before wanted fits was_open = ap unless_full (open_has_room start base levels v links masks store now e g laws before wanted fits was_open)

    pub open_through : (before wanted : List Coord) → FitsSeat start v wanted → IsOpenThrough store before (before ++ wanted) (open_before store.shape) → IsOpenThrough now before (before ++ wanted) (last_fused store.shape)
    open_through before wanted fits was_open =
        let last : base + length levels ≡ last_fused store.shape = e.levels_are.through ∙ ap last_fused e.given.same_shape in
        subst (IsOpenThrough now before (before ++ wanted)) last (g.opened before wanted fits was_open)
