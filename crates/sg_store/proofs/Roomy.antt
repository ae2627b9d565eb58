-- How large places get: no walk down accepted nodes has a place past 2^47, and a store has no more cells than storage
-- words.
use Rattle.std.proofs.Common.{◌≡◌, ◌≢◌, ℕ, zero, suc, ◌+◌, ◌-◌, ◌*◌, ◌<◌, ◌≤◌, ◌^◌, Bool, true, false, List, [], ◌∷◌, length, take, refl, sym, ap, ◌∙◌, subst, arith}
use Rattle.std.specs.Prelude.{Option, Some, None, slice_get, sum_by}
use Rattle.std.proofs.Math.Nat.{mul-le-mul_left, mul-le-mul_right}
use Rattle.std.proofs.lemmas.Bool.{false≢true}
use Rattle.std.proofs.lemmas.List.Elements.{All-head, All-tail}
use Rattle.std.proofs.lemmas.List.Sums.{sum_by-cons}
use Rattle.sg_layout.specs.declared.shape.Kind.{Kind}
use Rattle.sg_layout.specs.declared.shape.Kind.TheVariants.{Dense, Bitmasked, Pointer, Hash, Dynamic}
use Rattle.sg_layout.specs.declared.shape.NodeShape.{NodeShape}
use Rattle.sg_layout.specs.declared.shape.Shape.{Shape}
use Rattle.sg_layout.specs.Axes.{count_of, size_of, slots_of}
use Rattle.sg_layout.specs.StorageWords.{ends_segment, put_before, segments, last_node, copies_after, mask_words, end_by, end_words, segment_words, chunks_by, words_of_shape}
use Rattle.sg_store.specs.WellFormed.{places_below, cells_below, cell_count}
use Rattle.sg_store.specs.steps.Fresh.{chains_by, chains_below, IsRoomy, IsCapped}

-- ── No place is too large ──

pub some_parts : (x y : ℕ) → 1 ≤ x * y → (1 ≤ x) × (1 ≤ y)
some_parts zero y some = absurd (omega (arith, some))
some_parts (suc x) zero some = absurd (omega (arith, some))
some_parts (suc x) (suc y) some = (omega arith, omega arith)

-- a product is at least each factor, where the other is at least 1
pub at_least : (x y : ℕ) → 1 ≤ y → x ≤ x * y
at_least x y some = let grown : x * 1 ≤ x * y = mul-le-mul_left x some in omega arith

pub roomy_here : (node : NodeShape) (later : List NodeShape) (places : ℕ) → IsRoomy (node ∷ later) places → places * size_of node.sizes ≤ 2 ^ 47
roomy_here node later places roomy =
    let rest : 1 ≤ slots_of later = (some_parts (size_of node.sizes) (slots_of later) roomy.some).1 in
    let grown : places * size_of node.sizes ≤ places * size_of node.sizes * slots_of later = at_least (places * size_of node.sizes) (slots_of later) rest in
    let same : places * size_of node.sizes * slots_of later ≡ places * (size_of node.sizes * slots_of later) = omega arith in
    omega (arith, roomy.room)

next_room : (kind : Kind) (node : NodeShape) (places size rest : ℕ) → size ≡ size_of node.sizes → size * rest ≤ 2 ^ 30 → IsCapped kind node → places * (size * rest) ≤ 2 ^ 47 → rest ≤ 2 ^ 30 → places_below kind node (places * size) * rest ≤ 2 ^ 47
next_room Dense node places size rest sized whole capped room few = let same : places * size * rest ≡ places * (size * rest) = omega arith in omega (arith, room)
next_room Bitmasked node places size rest sized whole capped room few = let same : places * size * rest ≡ places * (size * rest) = omega arith in omega (arith, room)
next_room Pointer node places size rest sized whole capped room few =
    let most : count_of node.cap + 17 ≤ 2 ^ 17 = omega (arith, capped) in
    let first : (count_of node.cap + 17) * rest ≤ 2 ^ 17 * rest = mul-le-mul_right rest most in
    let second : 2 ^ 17 * rest ≤ 2 ^ 17 * 2 ^ 30 = mul-le-mul_left (2 ^ 17) few in
    omega arith
next_room Hash node places size rest sized whole capped room few =
    let most : count_of node.cap + 17 ≤ 2 ^ 17 = omega (arith, capped) in
    let first : (count_of node.cap + 17) * rest ≤ 2 ^ 17 * rest = mul-le-mul_right rest most in
    let second : 2 ^ 17 * rest ≤ 2 ^ 17 * 2 ^ 30 = mul-le-mul_left (2 ^ 17) few in
    omega arith
next_room Dynamic node places size rest sized whole capped room few =
    let chunks : count_of node.chunk ≤ size = omega (arith, capped.3, sized) in
    let caps : count_of node.cap * count_of node.chunk ≤ 2 ^ 16 * count_of node.chunk = mul-le-mul_right (count_of node.chunk) capped.1 in
    let most : 2 ^ 16 * count_of node.chunk ≤ 2 ^ 16 * size = mul-le-mul_left (2 ^ 16) chunks in
    let both : count_of node.cap * count_of node.chunk * rest ≤ 2 ^ 16 * size * rest = mul-le-mul_right rest (omega (arith, caps, most)) in
    let same : 2 ^ 16 * size * rest ≡ 2 ^ 16 * (size * rest) = omega arith in
    omega (arith, both, same, whole)

chains_next : (kind : Kind) (node : NodeShape) (later : List NodeShape) (places : ℕ) → chains_by kind places (chains_below later (places_below kind node (places * size_of node.sizes))) < 2 ^ 32 → (kind ≡ Dynamic → later ≡ []) → chains_below later (places_below kind node (places * size_of node.sizes)) < 2 ^ 32
chains_next Dense node later places few last = few
chains_next Bitmasked node later places few last = few
chains_next Pointer node later places few last = few
chains_next Hash node later places few last = few
chains_next Dynamic node later places few last =
    subst (λ nodes. chains_below nodes (count_of node.cap * count_of node.chunk) < 2 ^ 32) (sym (last refl)) (omega arith)

pub roomy_next : (node : NodeShape) (later : List NodeShape) (places : ℕ) → IsRoomy (node ∷ later) places → IsRoomy later (places_below node.kind node (places * size_of node.sizes))
roomy_next node later places roomy =
    let size : ℕ = size_of node.sizes in
    let rest : ℕ = slots_of later in
    let parts = some_parts size rest roomy.some in
    let grown : rest ≤ rest * size = at_least rest size parts.0 in
    let same : rest * size ≡ size * rest = omega arith in
    let few : rest ≤ 2 ^ 30 = omega (arith, roomy.few) in
    record {
      room = next_room node.kind node places size rest refl roomy.few (All-head (λ (n : NodeShape). IsCapped n.kind n) node later roomy.caps) roomy.room few;
      few = few;
      some = parts.1;
      caps = All-tail (λ (n : NodeShape). IsCapped n.kind n) node later roomy.caps;
      keys_fit = roomy.keys_fit.1;
      few_chains = chains_next node.kind node later places roomy.few_chains (λ dynamic. roomy.last.0 dynamic);
      last = roomy.last.1;
    }

-- ── No more cells and chains than storage words ──

-- the words of segments without those of masks
abbrev pub ends : ℕ → ℕ → List (List NodeShape) → ℕ
ends fields copies [] = 0
ends fields copies (segment ∷ others) =
    copies * end_words (last_node segment) segment fields + ends fields (copies_after (last_node segment)) others

ends_within : (fields copies : ℕ) (cut : List (List NodeShape)) → ends fields copies cut ≤ segment_words fields copies cut
ends_within fields copies [] = omega arith
ends_within fields copies (segment ∷ others) =
    let masks : ℕ = mask_words 1 segment in
    let end : ℕ = end_words (last_node segment) segment fields in
    let more : copies * end ≤ copies * (masks + end) = mul-le-mul_left copies (omega arith) in
    omega (arith, ends_within fields (copies_after (last_node segment)) others)

ends_more : (fields few more : ℕ) (cut : List (List NodeShape)) → few ≤ more → ends fields few cut ≤ ends fields more cut
ends_more fields few more [] less = omega arith
ends_more fields few more (segment ∷ others) less =
    let grown : few * end_words (last_node segment) segment fields ≤ more * end_words (last_node segment) segment fields = mul-le-mul_right _ less in
    omega arith

-- the last node of the first segment, if it has one, is no hash node
abbrev OtherOrNone : Option NodeShape → Type 0
OtherOrNone None = Unit {0}
OtherOrNone (Some node) = node.kind ≢ Hash

abbrev FirstOther : List (List NodeShape) → Type 0
FirstOther [] = Unit {0}
FirstOther (segment ∷ others) = OtherOrNone (last_node segment)

-- a node before others doesn't change the last
last_stays : (node next : NodeShape) (segment : List NodeShape) → last_node (node ∷ (next ∷ segment)) ≡ last_node (next ∷ segment)
last_stays node next segment =
    let one : suc (suc (length segment)) - 1 ≡ suc (length segment) = omega arith in
    let two : suc (length segment) - 1 ≡ length segment = omega arith in
    ap (slice_get (node ∷ (next ∷ segment))) one ∙ sym (ap (slice_get (next ∷ segment)) two)

put_other : (b : Bool) (node : NodeShape) (cut : List (List NodeShape)) → node.kind ≢ Hash → FirstOther cut → FirstOther (put_before b node cut)
put_other true node cut other first = other
put_other false node [] other first = other
put_other false node ([] ∷ others) other first = other
put_other false node ((next ∷ segment) ∷ others) other first = subst OtherOrNone (sym (last_stays node next segment)) first

-- nodes without a hash node, of which a dynamic one is the last
abbrev pub AreLater : List NodeShape → Type 0
AreLater [] = Unit {0}
AreLater (node ∷ later) = (node.kind ≢ Hash) × (node.kind ≡ Dynamic → later ≡ []) × AreLater later

first_other : (nodes : List NodeShape) → AreLater nodes → FirstOther (segments nodes)
first_other [] are = tt
first_other (node ∷ later) are = put_other (ends_segment node.kind) node (segments later) are.0 (first_other later are.2)

-- what stands at the end of a segment grows with a node before it
by_glue : (kind : Kind) (last node next : NodeShape) (rest : List NodeShape) (fields : ℕ) → kind ≢ Hash → size_of node.sizes * end_by kind last (next ∷ rest) fields ≡ end_by kind last (node ∷ (next ∷ rest)) fields
by_glue Dense last node next rest fields other = omega arith
by_glue Bitmasked last node next rest fields other = omega arith
by_glue Pointer last node next rest fields other = refl
by_glue Hash last node next rest fields other = absurd (other refl)
by_glue Dynamic last node next rest fields other =
    let one : suc (suc (length rest)) - 1 ≡ suc (length rest) = omega arith in
    let two : suc (length rest) - 1 ≡ length rest = omega arith in
    let above : slots_of (take (suc (suc (length rest)) - 1) (node ∷ (next ∷ rest))) ≡ size_of node.sizes * slots_of (take (length rest) (next ∷ rest)) = ap (λ n. slots_of (take n (node ∷ (next ∷ rest)))) one in
    let below : slots_of (take (suc (length rest) - 1) (next ∷ rest)) ≡ slots_of (take (length rest) (next ∷ rest)) = ap (λ n. slots_of (take n (next ∷ rest))) two in
    let same : size_of node.sizes * (2 * slots_of (take (length rest) (next ∷ rest))) ≡ 2 * (size_of node.sizes * slots_of (take (length rest) (next ∷ rest))) = omega arith in
    ap (λ n. size_of node.sizes * (2 * n)) below ∙ same ∙ ap (λ n. 2 * n) (sym above)

end_glue : (o : Option NodeShape) (node next : NodeShape) (rest : List NodeShape) (fields : ℕ) → OtherOrNone o → size_of node.sizes * end_words o (next ∷ rest) fields ≡ end_words o (node ∷ (next ∷ rest)) fields
end_glue None node next rest fields other = omega arith
end_glue (Some last) node next rest fields other = by_glue last.kind last node next rest fields other

-- a node that ends no segment and isn't dynamic has a value for each slot if it is the last
abbrev IsInner : Kind → Type 0
IsInner kind = (ends_segment kind ≡ false) × (kind ≢ Dynamic)

own_end : (kind : Kind) (node : NodeShape) (fields : ℕ) → IsInner kind → end_by kind node (node ∷ []) fields ≡ size_of node.sizes * 1 * fields
own_end Dense node fields inner = refl
own_end Bitmasked node fields inner = refl
own_end Pointer node fields inner = absurd (false≢true (sym inner.0))
own_end Hash node fields inner = absurd (false≢true (sym inner.0))
own_end Dynamic node fields inner = absurd (inner.1 refl)

glue_ends : (node : NodeShape) (cut : List (List NodeShape)) (fields copies : ℕ) → IsInner node.kind → FirstOther cut → ends fields (copies * size_of node.sizes) cut ≤ ends fields copies (put_before false node cut)
glue_ends node [] fields copies inner first = omega arith
glue_ends node ([] ∷ others) fields copies inner first =
    let size : ℕ = size_of node.sizes in
    let mine : copies * end_by node.kind node (node ∷ []) fields ≡ copies * (size * 1 * fields) = ap (λ n. copies * n) (own_end node.kind node fields inner) in
    let same : copies * size * (1 * fields) ≡ copies * (size * 1 * fields) = omega arith in
    let less : ends fields 0 others ≤ ends fields (count_of node.cap + 17) others = ends_more fields 0 (count_of node.cap + 17) others (omega arith) in
    omega arith
glue_ends node ((next ∷ segment) ∷ others) fields copies inner first =
    let size : ℕ = size_of node.sizes in
    let last : Option NodeShape = last_node (next ∷ segment) in
    let end : ℕ = end_words last (next ∷ segment) fields in
    let grown : size * end ≡ end_words last (node ∷ (next ∷ segment)) fields = end_glue last node next segment fields first in
    let same : copies * size * end ≡ copies * (size * end) = omega arith in
    let both : copies * size * end ≡ copies * end_words last (node ∷ (next ∷ segment)) fields = same ∙ ap (λ n. copies * n) grown in
    subst (λ o. copies * size * end + ends fields (copies_after last) others ≤ copies * end_words o (node ∷ (next ∷ segment)) fields + ends fields (copies_after o) others)
    (sym (last_stays node next segment)) (omega arith)

-- what is at most the ends of later nodes is at most those of one node more
ends_step : (kind : Kind) (node : NodeShape) (later : List NodeShape) (fields copies extra : ℕ) (count : ℕ → ℕ) → node.kind ≡ kind → kind ≢ Dynamic → FirstOther (segments later) → ((c : ℕ) → count c ≤ ends fields c (segments later) + extra) → count (places_below kind node (copies * size_of node.sizes)) ≤ ends fields copies (put_before (ends_segment kind) node (segments later)) + extra
ends_step Dense node later fields copies extra count is other first below =
    let inner : IsInner node.kind = (ap ends_segment is, λ dynamic. other (sym is ∙ dynamic)) in
    omega (arith, below (copies * size_of node.sizes), glue_ends node (segments later) fields copies inner first)
ends_step Bitmasked node later fields copies extra count is other first below =
    let inner : IsInner node.kind = (ap ends_segment is, λ dynamic. other (sym is ∙ dynamic)) in
    omega (arith, below (copies * size_of node.sizes), glue_ends node (segments later) fields copies inner first)
ends_step Pointer node later fields copies extra count is other first below = omega (arith, below (count_of node.cap + 17))
ends_step Hash node later fields copies extra count is other first below = omega (arith, below (count_of node.cap + 17))
ends_step Dynamic node later fields copies extra count is other first below = absurd (other refl)

-- the words of the chunks of nodes
abbrev pub chunk_words : ℕ → List NodeShape → ℕ
chunk_words fields nodes = sum_by (λ (node : NodeShape). chunks_by node.kind node fields) nodes

chunk_words_more : (fields : ℕ) (node : NodeShape) (later : List NodeShape) → chunk_words fields (node ∷ later) ≡ chunks_by node.kind node fields + chunk_words fields later
chunk_words_more fields node later = sum_by-cons {X = NodeShape} (λ (n : NodeShape). chunks_by n.kind n fields) node later

-- the cells of chunks are no more than their words
chunk_cells : (node : NodeShape) (fields : ℕ) → 1 ≤ fields → count_of node.cap * count_of node.chunk ≤ chunks_by Dynamic node fields
chunk_cells node fields some = mul-le-mul_left (count_of node.cap) (let grown : count_of node.chunk ≤ count_of node.chunk * fields = at_least (count_of node.chunk) fields some in omega (arith, grown))

cells_of : (kind : Kind) (node : NodeShape) (later : List NodeShape) (fields copies : ℕ) → node.kind ≡ kind → (kind ≡ Dynamic → later ≡ []) → FirstOther (segments later) → 1 ≤ fields → ((c : ℕ) → cells_below later c ≤ ends fields c (segments later) + chunk_words fields later) → cells_below later (places_below kind node (copies * size_of node.sizes)) ≤ ends fields copies (put_before (ends_segment kind) node (segments later)) + (chunks_by kind node fields + chunk_words fields later)
cells_of Dense node later fields copies is last first some below = omega (arith, ends_step Dense node later fields copies (chunk_words fields later) (cells_below later) is (λ e. cc) first below)
cells_of Bitmasked node later fields copies is last first some below = omega (arith, ends_step Bitmasked node later fields copies (chunk_words fields later) (cells_below later) is (λ e. cc) first below)
cells_of Pointer node later fields copies is last first some below = omega (arith, ends_step Pointer node later fields copies (chunk_words fields later) (cells_below later) is (λ e. cc) first below)
cells_of Hash node later fields copies is last first some below = omega (arith, ends_step Hash node later fields copies (chunk_words fields later) (cells_below later) is (λ e. cc) first below)
cells_of Dynamic node later fields copies is last first some below =
    let own : count_of node.cap * count_of node.chunk ≤ chunks_by Dynamic node fields = chunk_cells node fields some in
    subst (λ nodes. cells_below nodes (count_of node.cap * count_of node.chunk) ≤ ends fields copies (put_before false node (segments nodes)) + (chunks_by Dynamic node fields + chunk_words fields nodes))
    (sym (last refl)) (omega (arith, own))

cells_within : (nodes : List NodeShape) (fields copies : ℕ) → AreLater nodes → 1 ≤ fields → cells_below nodes copies ≤ ends fields copies (segments nodes) + chunk_words fields nodes
cells_within [] fields copies are some =
    let grown : copies ≤ copies * fields = at_least copies fields some in
    let same : copies * (1 * fields) ≡ copies * fields = omega arith in
    omega arith
cells_within (node ∷ later) fields copies are some =
    let own = cells_of node.kind node later fields copies refl are.1 (first_other later are.2) some (λ c. cells_within later fields c are.2 some) in
    omega (arith, own, chunk_words_more fields node later)

chains_of : (kind : Kind) (node : NodeShape) (later : List NodeShape) (fields copies : ℕ) → node.kind ≡ kind → (kind ≡ Dynamic → later ≡ []) → FirstOther (segments later) → ((c : ℕ) → chains_below later c ≤ ends fields c (segments later) + 0) → chains_by kind copies (chains_below later (places_below kind node (copies * size_of node.sizes))) ≤ ends fields copies (put_before (ends_segment kind) node (segments later)) + 0
chains_of Dense node later fields copies is last first below = ends_step Dense node later fields copies 0 (chains_below later) is (λ e. cc) first below
chains_of Bitmasked node later fields copies is last first below = ends_step Bitmasked node later fields copies 0 (chains_below later) is (λ e. cc) first below
chains_of Pointer node later fields copies is last first below = ends_step Pointer node later fields copies 0 (chains_below later) is (λ e. cc) first below
chains_of Hash node later fields copies is last first below = ends_step Hash node later fields copies 0 (chains_below later) is (λ e. cc) first below
chains_of Dynamic node later fields copies is last first below =
    let own : end_by node.kind node (node ∷ []) fields ≡ 2 = ap (λ k. end_by k node (node ∷ []) fields) is in
    let mine : copies * end_by node.kind node (node ∷ []) fields ≡ copies * 2 = ap (λ n. copies * n) own in
    subst (λ nodes. copies ≤ ends fields copies (put_before false node (segments nodes)) + 0) (sym (last refl)) (omega (arith, mine))

chains_within : (nodes : List NodeShape) (fields copies : ℕ) → AreLater nodes → chains_below nodes copies ≤ ends fields copies (segments nodes) + 0
chains_within [] fields copies are = omega arith
chains_within (node ∷ later) fields copies are =
    chains_of node.kind node later fields copies refl are.1 (first_other later are.2) (λ c. chains_within later fields c are.2)

-- the first node may be a hash node
abbrev pub AreOrdered : List NodeShape → Type 0
AreOrdered [] = Unit {0}
AreOrdered (node ∷ later) = (node.kind ≡ Dynamic → later ≡ []) × AreLater later

pub few_cells : (shape : Shape) → AreOrdered shape.nodes → 1 ≤ length shape.fields → cell_count shape ≤ words_of_shape shape
few_cells shape are some =
    omega (arith, cells_from shape.nodes (length shape.fields) are some, ends_within (length shape.fields) 1 (segments shape.nodes))
  where
    cells_from : (nodes : List NodeShape) (fields : ℕ) → AreOrdered nodes → 1 ≤ fields → cells_below nodes 1 ≤ ends fields 1 (segments nodes) + chunk_words fields nodes
    cells_from [] fields are some = cells_within [] fields 1 tt some
    cells_from (node ∷ others) fields are some =
        let own = cells_of node.kind node others fields 1 refl are.0 (first_other others are.1) some (λ c. cells_within others fields c are.1 some) in
        omega (arith, own, chunk_words_more fields node others)

pub few_chains : (shape : Shape) → AreOrdered shape.nodes → chains_below shape.nodes 1 ≤ words_of_shape shape
few_chains shape are =
    omega (arith, chains_from shape.nodes (length shape.fields) are, ends_within (length shape.fields) 1 (segments shape.nodes))
  where
    chains_from : (nodes : List NodeShape) (fields : ℕ) → AreOrdered nodes → chains_below nodes 1 ≤ ends fields 1 (segments nodes) + 0
    chains_from [] fields are = omega arith
    chains_from (node ∷ others) fields are =
        chains_of node.kind node others fields 1 refl are.0 (first_other others are.1) (λ c. chains_within others fields c are.1)
