use Rattle.std.proofs.Common.{◌≡◌, ℕ, ◌-◌, true, false, List, length, take, get_or, ap, ◌∙◌, sym, subst, arith}
use Rattle.std.specs.List.{list_all}
use Rattle.sg_coord.specs.Bounds.{Bounds, bounds_of}
use Rattle.sg_coord.specs.Coord.{Inside, is_inside}
use Rattle.sg_layout.specs.declared.shape.NodeShape.{NodeShape}
use Rattle.sg_layout.specs.declared.shape.Shape.{Shape}
use Rattle.sg_layout.specs.Axes.{bounds_of_shape}
use Rattle.sg_layout.specs.Closure.{is_dense}
use Rattle.sg_layout.specs.Rules.{has_good_extents}
use Rattle.sg_layout.proofs.Uses.{all_good, in_some}
use Rattle.sg_store.specs.StoreWords.{StoreWords}
use Rattle.sg_store.specs.WellFormed.{IsWellFormed}
use Rattle.sg_store.proofs.CellWords.{cell_is_reached}
use Rattle.sg_store.proofs.NextCells.{cells_follow, none_follow, many_left, none_left, other_left, other_kind, low_part, split_last, good_last}
use Rattle.sg_store.proofs.store.Store.cells_after.Goals as goal

pub bounds-nodes-last : goal.bounds-nodes-last
bounds-nodes-last c = omega (arith, c.nodes-last.ensures.some, c.nodes-last.ensures.value, ap length (c.as_slice-nodes.ensures ∙ ap (λ (s : Shape). s.nodes) c.shape.ensures.value))

pub left_in-requires : goal.left_in-requires
left_in-requires c =
    let store : StoreWords = c.args.self.now in
    let well : IsWellFormed store = subst IsWellFormed c.self.view_is c.self.invariant in
    let last : ℕ = c.nodes-last.result - 1 in
    let node : NodeShape = c.index-nodes-last.result in
    let shapes : c.as_slice-nodes.result.now ≡ store.shape.nodes = c.as_slice-nodes.ensures ∙ ap (λ (s : Shape). s.nodes) c.shape.ensures.value ∙ ap (λ (s : StoreWords). s.shape.nodes) c.self.view_is in
    let many : c.nodes-last.result ≡ length store.shape.nodes = c.nodes-last.ensures.value ∙ ap (λ (s : StoreWords). length s.shape.nodes) c.self.view_is in
    let are = split_last store.shape.nodes last node (omega (arith, c.nodes-last.ensures.some, many)) (c.index-nodes-last.is ∙ ap (λ (ns : List NodeShape). get_or ns last node) shapes) in
    record {
      good = good_last (take last store.shape.nodes) node (subst (λ (ns : List NodeShape). list_all has_good_extents ns ≡ true) are (all_good store.shape well.accepted));
      low = low_part (bounds_of c.extents-in-Dense.result) c.args.at (c.inside.ensures.inside.0 c.if-inside.true);
    }

pub returns-else-inside : goal.returns-else-inside
returns-else-inside c =
    let store : StoreWords = c.args.self.now in
    let bounds : bounds_of c.extents-in-Dense.result ≡ bounds_of_shape store.shape = c.extents-in-Dense.ensures.value ∙ ap (λ (s : StoreWords). bounds_of_shape s.shape) c.self.view_is in
    record {
      many = sym (none_left store.shape c.args.at (ap (λ (e : Bounds). is_inside e c.args.at) (sym bounds) ∙ sym c.inside.ensures.value ∙ c.if-inside.false));
      follow = none_follow store c.args.at;
      reached = λ next cell has. cell_is_reached store (c.paths_tell.ensures.is_slot store.shape) (c.paths_tell.ensures.whole store.shape) (subst IsWellFormed c.self.view_is c.self.invariant) next cell has;
    }

pub returns-then-inside : goal.returns-then-inside
returns-then-inside c =
    let store : StoreWords = c.args.self.now in
    let well : IsWellFormed store = subst IsWellFormed c.self.view_is c.self.invariant in
    let last : ℕ = c.nodes-last.result - 1 in
    let node : NodeShape = c.index-nodes-last.result in
    let shapes : c.as_slice-nodes.result.now ≡ store.shape.nodes = c.as_slice-nodes.ensures ∙ ap (λ (s : Shape). s.nodes) c.shape.ensures.value ∙ ap (λ (s : StoreWords). s.shape.nodes) c.self.view_is in
    let count : c.nodes-last.result ≡ length store.shape.nodes = c.nodes-last.ensures.value ∙ ap (λ (s : StoreWords). length s.shape.nodes) c.self.view_is in
    let are = split_last store.shape.nodes last node (omega (arith, c.nodes-last.ensures.some, count)) (c.index-nodes-last.is ∙ ap (λ (ns : List NodeShape). get_or ns last node) shapes) in
    let bounds : bounds_of c.extents-in-Dense.result ≡ bounds_of_shape store.shape = c.extents-in-Dense.ensures.value ∙ ap (λ (s : StoreWords). bounds_of_shape s.shape) c.self.view_is in
    let inside : Inside (bounds_of_shape store.shape) c.args.at = subst (λ (e : Bounds). Inside e c.args.at) bounds (c.inside.ensures.inside.0 c.if-inside.true) in
    let test : is_inside (bounds_of_shape store.shape) c.args.at ≡ true = ap (λ (e : Bounds). is_inside e c.args.at) (sym bounds) ∙ sym c.inside.ensures.value ∙ c.if-inside.true in
    let good : has_good_extents node ≡ true = good_last (take last store.shape.nodes) node (subst (λ (ns : List NodeShape). list_all has_good_extents ns ≡ true) are (all_good store.shape well.accepted)) in
    record {
      many = c.left_in.ensures ∙ sym (many_left store.shape (take last store.shape.nodes) node c.args.at true are test (ap is_dense c.in-Dense.is));
      follow = cells_follow store (take last store.shape.nodes) node are c.in-Dense.is well.accepted c.numbering.ensures.inside_test c.args.at c.left_in.result inside (in_some node.sizes c.args.at.n good) c.left_in.ensures;
      reached = λ next cell has. cell_is_reached store (c.paths_tell.ensures.is_slot store.shape) (c.paths_tell.ensures.whole store.shape) well next cell has;
    }

pub returns-in-Bitmasked : goal.returns-in-Bitmasked
returns-in-Bitmasked c =
    let store : StoreWords = c.args.self.now in
    let last : ℕ = c.nodes-last.result - 1 in
    let node : NodeShape = c.index-nodes-last.result in
    let shapes : c.as_slice-nodes.result.now ≡ store.shape.nodes = c.as_slice-nodes.ensures ∙ ap (λ (s : Shape). s.nodes) c.shape.ensures.value ∙ ap (λ (s : StoreWords). s.shape.nodes) c.self.view_is in
    let count : c.nodes-last.result ≡ length store.shape.nodes = c.nodes-last.ensures.value ∙ ap (λ (s : StoreWords). length s.shape.nodes) c.self.view_is in
    let are = split_last store.shape.nodes last node (omega (arith, c.nodes-last.ensures.some, count)) (c.index-nodes-last.is ∙ ap (λ (ns : List NodeShape). get_or ns last node) shapes) in
    record {
      many = sym (other_left store.shape (take last store.shape.nodes) node c.args.at are (other_kind node.kind c.in-Bitmasked.is));
      follow = none_follow store c.args.at;
      reached = λ next cell has. cell_is_reached store (c.paths_tell.ensures.is_slot store.shape) (c.paths_tell.ensures.whole store.shape) (subst IsWellFormed c.self.view_is c.self.invariant) next cell has;
    }
