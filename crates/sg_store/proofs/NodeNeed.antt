-- As many containers or chunks of a node with a cap are live as it needs for the coordinates for which its slots are on.
use Rattle.std.proofs.Common.{◌≡◌, ℕ, suc, true, List, length, refl, sym, ap, ◌∙◌, subst, arith}
use Rattle.std.specs.Prelude.{Some, slice_get}
use Rattle.std.proofs.lemmas.Bool.{false≢true}
use Rattle.std.proofs.lemmas.Option.{slice_get_within}
use Rattle.sg_coord.specs.declared.coord.Coord.{Coord}
use Rattle.sg_layout.specs.declared.shape.Kind.{Kind}
use Rattle.sg_layout.specs.declared.shape.Kind.TheVariants.{Dense, Bitmasked, Pointer, Hash, Dynamic}
use Rattle.sg_layout.specs.declared.shape.NodeShape.{NodeShape}
use Rattle.sg_layout.specs.declared.shape.Shape.{Shape}
use Rattle.sg_layout.specs.Axes.{count_of}
use Rattle.sg_layout.specs.StorageWords.{ends_segment}
use Rattle.sg_layout.specs.Live.{kind_at, is_live}
use Rattle.sg_layout.specs.Need.{reached_slots, need_by, need_of}
use Rattle.sg_layout.specs.NeedLaws.{ReachedAreLive, ReachedOnce, ParentsHaveLive, LiveUpToGreatest}
use Rattle.sg_layout.specs.PathLaws.{PathIsSlot}
use Rattle.sg_pool.specs.Numbers.{live_count}
use Rattle.sg_store.specs.declared.node.NodeWords.{NodeWords}
use Rattle.sg_store.specs.StoreWords.{StoreWords}
use Rattle.sg_store.specs.Walks.{is_on}
use Rattle.sg_store.specs.WellFormed.{kind_has_cap, IsNode, IsDynamicNode, IsWellFormed, is_root}
use Rattle.sg_store.specs.StandsFor.{IsSlotOf}
use Rattle.sg_store.proofs.Walking.{node_is}
use Rattle.sg_store.proofs.Wanted.{kind_there}
use Rattle.sg_store.proofs.Counting.{IsOnFor, live_is_reached}
use Rattle.sg_store.proofs.PointerLevel.{linked_other}
use Rattle.sg_store.proofs.HashAt.{linked_at}
use Rattle.sg_store.proofs.LiveChunks.{live_chunks}
use Rattle.sg_store.proofs.Under.{DynamicAt}
use Rattle.sg_store.proofs.ChainNeed.{chain_need}
use Rattle.sg_store.proofs.DynamicFull.{ChainLaws, own_tell}

-- the laws of layouts that tell it
pub record NeedLaws (shape : Shape) : Type 0 where
  pub is_slot : PathIsSlot shape
  pub reached : ReachedAreLive shape
  pub once : ReachedOnce shape
  pub parents : ParentsHaveLive shape
  pub up_to : LiveUpToGreatest shape

-- the slots of the node with an index are on exactly when they are live for coordinates
abbrev pub IsOnAt : StoreWords → ℕ → List Coord → Type 0
IsOnAt store i coords =
    (slot : List ℕ) → IsSlotOf store.shape (suc i) slot → is_on store.shape.nodes store.nodes 0 slot ≡ is_live store.shape coords (suc i) slot

-- a node with child containers needs one for each slot that is reached
pub need_linked : (kind : Kind) (shape : Shape) (all : List Coord) (number chunk : ℕ) → ends_segment kind ≡ true → need_by kind shape all number chunk ≡ length (reached_slots shape all number)
need_linked Pointer shape all number chunk linked = refl
need_linked Hash shape all number chunk linked = refl
need_linked Dense shape all number chunk linked = absurd (false≢true linked)
need_linked Bitmasked shape all number chunk linked = absurd (false≢true linked)
need_linked Dynamic shape all number chunk linked = absurd (false≢true linked)

linked_need : (store : StoreWords) (i : ℕ) (node : NodeShape) (kept : NodeWords) (coords : List Coord) → NeedLaws store.shape → IsWellFormed store → slice_get store.shape.nodes i ≡ Some node → slice_get store.nodes i ≡ Some kept → ends_segment node.kind ≡ true → IsOnAt store i coords → live_count kept.pool ≡ need_of store.shape coords (suc i) node
linked_need store i node kept coords laws well at has linked on =
    let kind : ends_segment (kind_at store.shape.nodes (suc i)) ≡ true = ap ends_segment (kind_there store.shape.nodes i node at) ∙ linked in
    let links = linked_at store i node kept well at has linked in
    let here : IsOnFor store i coords = record {
      paths = λ c. laws.is_slot well.accepted c (suc i);
      on = λ slot is_slot. on slot (record {
        first = omega arith;
        within = omega (arith, slice_get_within store.shape.nodes i node at);
        has_activity = linked_other _ Dense kind refl;
        is_slot = is_slot;
      });
      reached = laws.reached;
      once = laws.once;
      one_slot = linked_other _ Dynamic kind refl;
    } in
    live_is_reached store i node kept links.0 coords links.1 here ∙ sym (need_linked node.kind store.shape coords (suc i) (count_of node.chunk) linked)

dynamic_need : (store : StoreWords) (i : ℕ) (node : NodeShape) (kept : NodeWords) (coords : List Coord) → NeedLaws store.shape → IsWellFormed store → slice_get store.shape.nodes i ≡ Some node → slice_get store.nodes i ≡ Some kept → node.kind ≡ Dynamic → IsOnAt store i coords → live_count kept.pool ≡ need_of store.shape coords (suc i) node
dynamic_need store i node kept coords laws well at has dynamic on =
    let d : DynamicAt store i node kept = record {
      within = omega (arith, slice_get_within store.shape.nodes i node at);
      are_nodes = well.nodes_fit;
      at = at;
      has = has;
      dynamic = dynamic;
      paths = λ c n. laws.is_slot well.accepted c n;
    } in
    let own = node_is store.shape.nodes store.nodes 1 is_root well.nodes_fit i node kept at has in
    let is : IsDynamicNode node kept own.0 own.1 = subst (λ k. IsNode k node kept own.0 own.1) dynamic own.2 in
    let chains : ChainLaws store.shape = record { parents = laws.parents; up_to = laws.up_to; once = laws.once } in
    live_chunks node kept own.0 own.1 is ∙ chain_need store i node kept kept.lengths coords (own_tell store i node kept coords d chains on)
    ∙ sym (ap (λ k. need_by k store.shape coords (suc i) (count_of node.chunk)) dynamic)

pub node_need : (store : StoreWords) (i : ℕ) (node : NodeShape) (kept : NodeWords) (coords : List Coord) → NeedLaws store.shape → IsWellFormed store → slice_get store.shape.nodes i ≡ Some node → slice_get store.nodes i ≡ Some kept → kind_has_cap node.kind ≡ true → IsOnAt store i coords → live_count kept.pool ≡ need_of store.shape coords (suc i) node
node_need store i node kept coords laws well at has capped on = by_kind node.kind refl capped
  where
    by_kind : (kind : Kind) → node.kind ≡ kind → kind_has_cap kind ≡ true → live_count kept.pool ≡ need_of store.shape coords (suc i) node
    by_kind Pointer e capped = linked_need store i node kept coords laws well at has (ap ends_segment e) on
    by_kind Hash e capped = linked_need store i node kept coords laws well at has (ap ends_segment e) on
    by_kind Dynamic e capped = dynamic_need store i node kept coords laws well at has e on
    by_kind Dense e capped = absurd (false≢true capped)
    by_kind Bitmasked e capped = absurd (false≢true capped)
