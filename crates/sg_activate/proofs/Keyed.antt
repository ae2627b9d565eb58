-- A store that is open through a hash node has a link beside the key of each wanted coordinate.
use Rattle.std.proofs.Common.{◌≡◌, ℕ, ◌≤◌, true, false, List, [], ◌∷◌, ◌++◌, length, take, refl, sym, ap, ◌∙◌, subst, arith}
use Rattle.std.specs.Prelude.{IsSome, slice_get, slice_index}
use Rattle.std.specs.List.{Contains}
use Rattle.std.proofs.lemmas.Slice.Eq.{bytes_eq-Decides}
use Rattle.std.proofs.lemmas.List.Folds.{list_any-from_Any}
use Rattle.std.proofs.lemmas.List.Elements.{Contains-append_right}
use Rattle.sg_coord.specs.declared.coord.Coord.{Coord}
use Rattle.sg_layout.specs.declared.shape.Kind.TheVariants.{Dense, Hash}
use Rattle.sg_layout.specs.declared.shape.NodeShape.{NodeShape}
use Rattle.sg_layout.specs.declared.shape.Shape.{Shape}
use Rattle.sg_layout.specs.Path.{offsets, path}
use Rattle.sg_layout.specs.PathLaws.{PathIsSlot}
use Rattle.sg_layout.specs.Live.{kind_or, kind_at, makes_live, is_live}
use Rattle.sg_hash.specs.Tables.{beside}
use Rattle.sg_store.specs.declared.node.NodeWords.{NodeWords}
use Rattle.sg_store.specs.StoreWords.{StoreWords}
use Rattle.sg_store.specs.Slots.{slot_under, is_set}
use Rattle.sg_store.specs.Walks.{is_on}
use Rattle.sg_store.specs.WellFormed.{IsWellFormed}
use Rattle.sg_store.specs.Reaching.{IsOpenThrough}
use Rattle.sg_store.specs.Opening.{keys_or_none, links_or_none}
use Rattle.sg_activate.specs.declared.descent.rule.Start.{Start}
use Rattle.sg_activate.specs.Descending.{nodes_before, open_before, IsStartOf, KnowsKey}

-- a hash node keeps a slot where a link stands beside it
key_set : (nodes : List NodeShape) (words : List NodeWords) (offs : List ℕ) → kind_or (slice_get nodes 0) ≡ Hash → is_on nodes words 0 (take 1 offs) ≡ true
    → IsSome (beside (keys_or_none (slice_get words 0)) (links_or_none (slice_get words 0)) (slice_index offs 0))
key_set [] words offs hash on = (let e : Dense ≡ Hash = hash in cc)
key_set (node ∷ later) [] [] hash on = (let e : false ≡ true = on in cc)
key_set (node ∷ later) [] (o ∷ offs) hash on = (let e : false ≡ true = on in cc)
key_set (node ∷ later) (kept ∷ words) [] hash on = (let e : false ≡ true = on in cc)
key_set (node ∷ later) (kept ∷ words) (o ∷ offs) hash on =
    let here : is_set node.kind node kept (slot_under node 0 o) ≡ true = on in
    let kind : node.kind ≡ Hash = hash in
    let number : slot_under node 0 o ≡ o = omega arith in
    let set : is_set Hash node kept o ≡ true = subst (λ n. is_set Hash node kept n ≡ true) number (subst (λ k. is_set k node kept (slot_under node 0 o) ≡ true) kind here) in
    set

some_node : (nodes : List NodeShape) → kind_at nodes 1 ≡ Hash → 1 ≤ length nodes
some_node [] hash = (let e : Dense ≡ Hash = hash in cc)
some_node (node ∷ later) hash = omega arith

-- the path of a coordinate of the list is live at a hash node
path_live : (shape : Shape) (written : List Coord) (at : Coord) → kind_at shape.nodes 1 ≡ Hash → Contains written at → is_live shape written 1 (path shape at 1) ≡ true
path_live shape written at hash (k, below, same) =
    list_any-from_Any (λ (other : Coord). makes_live (kind_at shape.nodes 1) (path shape other 1) (path shape at 1)) written
    (k, at, below, same, subst (λ kind. makes_live kind (path shape at 1) (path shape at 1) ≡ true) (sym hash) ((bytes_eq-Decides (path shape at 1) (path shape at 1)).1 refl))

pub keyed : (start : Start) (store : StoreWords) → IsStartOf start store → IsWellFormed store → PathIsSlot store.shape → (old wanted : List Coord)
    → IsOpenThrough store old (old ++ wanted) (open_before store.shape) → (at : Coord) → Contains wanted at → KnowsKey start at
keyed start store same well paths old wanted opens at has hash =
    let here : kind_at store.shape.nodes 1 ≡ Hash = ap (λ (s : Shape). kind_at s.nodes 1) (sym same.same_shape) ∙ hash in
    let one : open_before store.shape ≡ 1 = ap nodes_before here in
    let through = subst (λ n. IsOpenThrough store old (old ++ wanted) n) one opens in
    let live = through 1 (path store.shape at 1) (record { first = omega arith; within = some_node store.shape.nodes here; has_activity = λ dense. (let e : Hash ≡ Dense = sym here ∙ dense in cc); is_slot = paths well.accepted at 1 }) in
    let on : is_on store.shape.nodes store.nodes 0 (take 1 (offsets store.shape.nodes at)) ≡ true = live ∙ path_live store.shape (old ++ wanted) at here (Contains-append_right old wanted at has) in
    let set = key_set store.shape.nodes store.nodes (offsets store.shape.nodes at) here on in
    let words = same.keys here in
    subst (λ k. IsSome (beside k start.heads (slice_index (offsets start.layout.nodes at) 0))) (sym words.0)
    (subst (λ l. IsSome (beside (keys_or_none (slice_get store.nodes 0)) l (slice_index (offsets start.layout.nodes at) 0))) (sym words.1)
    (subst (λ (s : Shape). IsSome (beside (keys_or_none (slice_get store.nodes 0)) (links_or_none (slice_get store.nodes 0)) (slice_index (offsets s.nodes at) 0))) (sym same.same_shape) set))
