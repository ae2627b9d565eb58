-- Walks over the path of a coordinate, as the code goes: node by node, with the place so far.
use Rattle.std.proofs.Common.{◌≡◌, ℕ, zero, suc, ◌+◌, ◌*◌, ◌<◌, ◌≤◌, Bool, List, [], ◌∷◌, ◌++◌, length, take, refl, sym, ap, ◌∙◌, subst, arith}
use Rattle.std.specs.Prelude.{Option, Some, None, option_and_then, slice_get, slice_index}
use Rattle.std.specs.Option.{option_map}
use Rattle.std.proofs.lemmas.List.{take_more}
use Rattle.sg_coord.specs.declared.coord.Coord.{Coord}
use Rattle.sg_layout.specs.declared.shape.NodeShape.{NodeShape}
use Rattle.sg_layout.specs.declared.shape.Shape.{Shape}
use Rattle.sg_layout.specs.Axes.{size_of, sizes_of}
use Rattle.sg_layout.specs.Path.{offsets, path}
use Rattle.sg_layout.specs.PathLaws.{PathIsSlot}
use Rattle.sg_store.specs.declared.node.NodeWords.{NodeWords}
use Rattle.sg_store.specs.StoreWords.{StoreWords}
use Rattle.sg_store.specs.Slots.{slot_under, place_below}
use Rattle.sg_store.specs.Walks.{place_after, slot_number_in, slot_in}
use Rattle.sg_store.specs.WellFormed.{IsWellFormed, is_root}
use Rattle.sg_store.specs.steps.AtNode.{AtNodeOf}
use Rattle.sg_store.specs.steps.Walking.{IsPlaceAt, step_of_walk}
use Rattle.sg_store.proofs.SlotPaths.{slot_offsets}
use Rattle.sg_store.proofs.Stepping.{step_more, step_none, answer_more, either_leads, place_fits, words_many, size_at}

-- an item that is there
pub there : {A : Type 0} → (xs : List A) (i : ℕ) → i < length xs → (x : A) × (slice_get xs i ≡ Some x)
there [] i below = absurd (omega (arith, below))
there (x ∷ xs) zero below = (x, refl)
there (x ∷ xs) (suc i) below = there xs i (omega (arith, below))

offsets_many : (nodes : List NodeShape) (at : Coord) → length (offsets nodes at) ≡ length nodes
offsets_many [] at = refl
offsets_many (node ∷ later) at = ap suc (offsets_many later at)

pub path_next : (shape : Shape) (at : Coord) (i : ℕ) → i < length shape.nodes → path shape at (i + 1) ≡ path shape at i ++ slice_index (offsets shape.nodes at) i ∷ []
path_next shape at i below = take_more (offsets shape.nodes at) i 0 (omega (arith, offsets_many shape.nodes at))

pub path_more : (shape : Shape) (at : Coord) (i : ℕ) → i < length shape.nodes → path shape at (suc i) ≡ path shape at i ++ slice_index (offsets shape.nodes at) i ∷ []
path_more shape at i below = let one : suc i ≡ i + 1 = omega arith in ap (path shape at) one ∙ path_next shape at i below

pub path_long : (shape : Shape) (at : Coord) (i : ℕ) → i ≤ length shape.nodes → length (path shape at i) ≡ i
path_long shape at i below = long (offsets shape.nodes at) i (omega (arith, offsets_many shape.nodes at))
  where
    long : (xs : List ℕ) (n : ℕ) → n ≤ length xs → length (take n xs) ≡ n
    long xs zero below = refl
    long [] (suc n) below = absurd (omega (arith, below))
    long (x ∷ xs) (suc n) below = ap suc (long xs n (omega (arith, below)))

-- a longer path begins with a shorter one
path_split : (xs : List ℕ) (i n : ℕ) → i ≤ n → (rest : List ℕ) × (take n xs ≡ take i xs ++ rest)
path_split xs zero n below = (take n xs, refl)
path_split [] (suc i) zero below = absurd (omega (arith, below))
path_split [] (suc i) (suc n) below = ([], refl)
path_split (x ∷ xs) (suc i) zero below = absurd (omega (arith, below))
path_split (x ∷ xs) (suc i) (suc n) below =
    let rest = path_split xs i n (omega (arith, below)) in (rest.0, ap (λ l. x ∷ l) rest.1)

-- what a step at a node answers
abbrev pub StepIs : StoreWords → ℕ → ℕ → ℕ → Bool → Option ℕ → Type 0
StepIs store i place o bits result =
    (node : NodeShape) (kept : NodeWords) → slice_get store.shape.nodes i ≡ Some node → slice_get store.nodes i ≡ Some kept → result ≡ step_of_walk bits node.kind node kept (slot_under node place o)

pub place_at : (store : StoreWords) → IsWellFormed store → PathIsSlot store.shape → (bits : Bool) (at : Coord) (i place : ℕ) → i < length store.shape.nodes → place_after (step_of_walk bits) store.shape.nodes store.nodes 0 (path store.shape at i) ≡ Some place → AtNodeOf (IsPlaceAt place) store i
place_at store is slots bits at i place below e =
    let long = path_long store.shape at i (omega (arith, below)) in
    subst (λ n. AtNodeOf (IsPlaceAt place) store n) long
    (place_fits store.shape.nodes store.nodes 1 is_root is.nodes_fit 0 (omega arith) (path store.shape at i) (slot_offsets store.shape.nodes i _ (slots is.accepted at i)) place (either_leads bits store.shape.nodes store.nodes 0 _ place e) (omega (arith, long)))

pub place_next : (store : StoreWords) → IsWellFormed store → (bits : Bool) (at : Coord) (i place o : ℕ) (result : Option ℕ) → i < length store.shape.nodes → o ≡ slice_index (offsets store.shape.nodes at) i → StepIs store i place o bits result → place_after (step_of_walk bits) store.shape.nodes store.nodes 0 (path store.shape at i) ≡ Some place → place_after (step_of_walk bits) store.shape.nodes store.nodes 0 (path store.shape at (i + 1)) ≡ result
place_next store is bits at i place o result below same step e =
    let nodes : List NodeShape = store.shape.nodes in
    let node = there nodes i below in
    let kept = there store.nodes i (omega (arith, words_many nodes store.nodes 1 is_root is.nodes_fit)) in
    ap (place_after (step_of_walk bits) nodes store.nodes 0) (path_next store.shape at i below ∙ ap (λ n. path store.shape at i ++ n ∷ []) (sym same))
    ∙ step_more (step_of_walk bits) nodes store.nodes i node.0 kept.0 node.1 kept.1 0 (path store.shape at i) o (path_long store.shape at i (omega (arith, below)))
    ∙ ap (option_and_then (λ x. step_of_walk bits node.0.kind node.0 kept.0 (slot_under node.0 x o))) e
    ∙ sym (step node.0 kept.0 node.1 kept.1)

-- if it ends, the whole walk does
pub place_ends : (store : StoreWords) (bits : Bool) (at : Coord) (i n : ℕ) → i ≤ n → place_after (step_of_walk bits) store.shape.nodes store.nodes 0 (path store.shape at i) ≡ None → place_after (step_of_walk bits) store.shape.nodes store.nodes 0 (path store.shape at n) ≡ None
place_ends store bits at i n below none =
    let rest = path_split (offsets store.shape.nodes at) i n below in
    ap (place_after (step_of_walk bits) store.shape.nodes store.nodes 0) rest.1 ∙ step_none (step_of_walk bits) store.shape.nodes store.nodes 0 (path store.shape at i) rest.0 none

-- the number of a slot, from the place of its container
pub number_next : (store : StoreWords) → IsWellFormed store → (at : Coord) (i : ℕ) (place : Option ℕ) (o size : ℕ) → i < length store.shape.nodes → o ≡ slice_index (offsets store.shape.nodes at) i → size ≡ slice_index (sizes_of store.shape.nodes) i → place_after place_below store.shape.nodes store.nodes 0 (path store.shape at i) ≡ place → slot_in store (suc i) at ≡ option_map (λ x. x * size + o) place
number_next store is at i place o size below same sized e =
    let nodes : List NodeShape = store.shape.nodes in
    let node = there nodes i below in
    let kept = there store.nodes i (omega (arith, words_many nodes store.nodes 1 is_root is.nodes_fit)) in
    let next : suc i ≡ i + 1 = omega arith in
    let size_is : size_of node.0.sizes ≡ size = sym (size_at nodes i node.0 node.1) ∙ sym sized in
    ap (λ n. slot_number_in nodes store.nodes 0 (path store.shape at n)) next
    ∙ ap (slot_number_in nodes store.nodes 0) (path_next store.shape at i below ∙ ap (λ n. path store.shape at i ++ n ∷ []) (sym same))
    ∙ answer_more (λ _ _ _ number. number) nodes store.nodes i node.0 kept.0 node.1 kept.1 0 (path store.shape at i) o (path_long store.shape at i (omega (arith, below)))
    ∙ ap (λ p. option_map (λ x. x * size_of node.0.sizes + o) p) e
    ∙ ap (λ z. option_map (λ x. x * z + o) place) size_is
