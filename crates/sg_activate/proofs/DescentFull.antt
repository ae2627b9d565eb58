-- Which pointer node is too full first.
use Rattle.std.proofs.Common.{◌≡◌, ℕ, suc, ◌+◌, ◌-◌, ◌≤◌, Bool, true, false, cond, ◌&&◌, nat_lt, List, [], ◌∷◌, ◌++◌, length, refl, sym, ap, ◌∙◌, subst, arith}
use Rattle.std.specs.Prelude.{Some, None, slice_get}
use Rattle.std.proofs.lemmas.Bool.Decides.{nat_tests}
use Rattle.std.proofs.lemmas.Option.{same_Some}
use Rattle.sg_words.specs.declared.race.Worker.{Worker}
use Rattle.sg_coord.specs.declared.coord.Coord.{Coord}
use Rattle.sg_layout.specs.declared.shape.Kind.{Kind}
use Rattle.sg_layout.specs.declared.shape.Kind.TheVariants.{Dense, Bitmasked, Pointer, Hash, Dynamic}
use Rattle.sg_layout.specs.declared.shape.NodeShape.{NodeShape}
use Rattle.sg_layout.specs.declared.shape.Shape.{Shape}
use Rattle.sg_layout.specs.Axes.{count_of}
use Rattle.sg_layout.specs.Live.{kind_or}
use Rattle.sg_layout.specs.Need.{FullNode, need_of, first_full_from}
use Rattle.sg_layout.specs.NeedLaws.{IsNumberedNode}
use Rattle.sg_store.specs.StoreWords.{StoreWords}
use Rattle.sg_store.specs.Reaching.{IsOpenThrough}
use Rattle.sg_store.proofs.Uses.{NeedLaws, open_need_fits}
use Rattle.sg_activate.specs.declared.descent.rule.Start.{Start}
use Rattle.sg_activate.specs.declared.descent.level.Level.{Level}
use Rattle.sg_activate.specs.Descending.{is_fused, is_pointer, last_fused, open_before, first_link_full_from, first_link_full, FitsSeat}
use Rattle.sg_activate.specs.steps.DescentEnds.{HasGot, IsEnding}
use Rattle.sg_activate.proofs.DescentBridge.{fused-below}

abbrev full_node : ℕ → ℕ → FullNode
full_node n c = record { node = n; cap = c }

-- the first node that is too full, where it is a pointer node, is the first such one
pub link_full_from : (shape : Shape) (written : List Coord) (number n c : ℕ) (nodes : List NodeShape) → first_full_from shape written number nodes ≡ Some (record { node = n; cap = c })
    → ((j : ℕ) (node : NodeShape) → slice_get nodes j ≡ Some node → number + j ≡ n → node.kind ≡ Pointer) → first_link_full_from shape written number nodes ≡ Some (record { node = n; cap = c })
link_full_from shape written number n c [] is pointer = absurd (cc)
link_full_from shape written number n c (node ∷ later) is pointer =
    go (nat_lt (count_of node.cap) (need_of shape written number node)) is
    (λ rest. link_full_from shape written (suc number) n c later rest (λ j other at e. let e' : number + suc j ≡ n = omega arith in pointer (suc j) other at e'))
  where
    number_of : (x y : FullNode) → Some x ≡ Some y → x.node ≡ y.node
    number_of x y e = ap (λ (f : FullNode). f.node) (same_Some x y e)

    both : (b : Bool) → is_pointer node.kind ≡ true → (is_pointer node.kind && b) ≡ b
    both b e = ap (λ p. p && b) e ∙ same b
      where
        same : (b : Bool) → (true && b) ≡ b
        same true = refl
        same false = refl

    none : (p : Bool) → (p && false) ≡ false
    none true = refl
    none false = refl

    go : (b : Bool) → cond b (Some (record { node = number; cap = count_of node.cap })) (first_full_from shape written (suc number) later) ≡ Some (record { node = n; cap = c })
        → (first_full_from shape written (suc number) later ≡ Some (record { node = n; cap = c }) → first_link_full_from shape written (suc number) later ≡ Some (record { node = n; cap = c }))
        → cond (is_pointer node.kind && b) (Some (record { node = number; cap = count_of node.cap })) (first_link_full_from shape written (suc number) later) ≡ Some (record { node = n; cap = c })
    go true here rest =
        let same : number ≡ n = number_of (full_node number (count_of node.cap)) (full_node n c) here in
        let kind = pointer 0 node refl (let e : number + 0 ≡ n = omega arith in e) in
        ap (λ p. cond p (Some (full_node number (count_of node.cap))) (first_link_full_from shape written (suc number) later)) (both true (ap is_pointer kind)) ∙ here
    go false later_is rest =
        ap (λ p. cond p (Some (full_node number (count_of node.cap))) (first_link_full_from shape written (suc number) later)) (none (is_pointer node.kind)) ∙ rest later_is

-- where the need of each pointer node fits there is none
pub no_link_full : (shape : Shape) (written : List Coord) (number : ℕ) (nodes : List NodeShape)
    → ((j : ℕ) (node : NodeShape) → slice_get nodes j ≡ Some node → node.kind ≡ Pointer → need_of shape written (number + j) node ≤ count_of node.cap) → first_link_full_from shape written number nodes ≡ None
no_link_full shape written number [] fits = refl
no_link_full shape written number (node ∷ later) fits =
    ap (λ b. cond b (Some (full_node number (count_of node.cap))) (first_link_full_from shape written (suc number) later)) (not_here node.kind refl)
    ∙ no_link_full shape written (suc number) later (λ j other at kind. let e : number + suc j ≡ suc number + j = omega arith in subst (λ n. need_of shape written n other ≤ count_of other.cap) e (fits (suc j) other at kind))
  where
    low : node.kind ≡ Pointer → nat_lt (count_of node.cap) (need_of shape written number node) ≡ false
    low kind =
        let e : number + 0 ≡ number = omega arith in
        let fit : need_of shape written number node ≤ count_of node.cap = subst (λ n. need_of shape written n node ≤ count_of node.cap) e (fits 0 node refl kind) in
        grind (arith, nat_tests)

    not_here : (kind : Kind) → node.kind ≡ kind → (is_pointer kind && nat_lt (count_of node.cap) (need_of shape written number node)) ≡ false
    not_here Dense e = refl
    not_here Bitmasked e = refl
    not_here Pointer e = ap (λ b. true && b) (low e)
    not_here Hash e = refl
    not_here Dynamic e = refl

-- of a store that is open through the last node with links or bits
pub open_has_room : (start : Start) (base : ℕ) (levels : List Level) (v : Worker) (links masks : List ℕ) (store now : StoreWords) → IsEnding start base levels v links masks store → HasGot start base v links masks store now (length levels)
    → NeedLaws now.shape → (old wanted : List Coord) → FitsSeat start v wanted → IsOpenThrough store old (old ++ wanted) (open_before store.shape) → first_link_full store.shape (old ++ wanted) ≡ None
open_has_room start base levels v links masks store now e g laws old wanted fits was_open =
    let is_open = g.opened old wanted fits was_open in
    let last : last_fused now.shape ≡ base + length levels = ap last_fused (g.keeps.same_shape ∙ sym e.given.same_shape) ∙ sym e.levels_are.through in
    ap (λ (s : Shape). first_link_full s (old ++ wanted)) (sym g.keeps.same_shape)
    ∙ no_link_full now.shape (old ++ wanted) 1 now.shape.nodes (λ j node at kind.
    let back : j ≡ 1 + j - 1 = omega arith in
    let here : IsNumberedNode now.shape (1 + j) node = record { first = omega arith; there = ap (slice_get now.shape.nodes) (sym back) ∙ at } in
    let low = fused-below now.shape.nodes 1 0 j (omega arith) (ap (λ o. is_fused (kind_or o)) at ∙ ap is_fused kind) in
    open_need_fits now (base + length levels) (1 + j) old (old ++ wanted) node laws g.well_formed is_open here (omega arith))
