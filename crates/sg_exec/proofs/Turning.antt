-- What turns want in each layout, and the first write outside of turns.
use Rattle.std.proofs.Common.{◌≡◌, ◌⊎◌, ℕ, zero, suc, ◌+◌, ◌<◌, ◌≤◌, Bool, true, false, ◌&&◌, ◌==◌, List, [], ◌∷◌, ◌++◌, map, length, take, drop, get_or, cond, Option, Some, None, Result, Ok, Err, refl, inl, inr, sym, ap, ◌∙◌, subst, arith, append_assoc, append-nil, Bor}
use Rattle.std.specs.Prelude.{filter, slice_get, All, Contains, IsTrue, OnErr, OnOk}
use Rattle.std.specs.Option.{option_or}
use Rattle.std.specs.List.{AllZip}
use Rattle.std.specs.Result.{IsErrAnd}
use Rattle.std.proofs.lemmas.Bool.{cond-true, cond-false, eqb-true}
use Rattle.std.proofs.lemmas.Option.{same_Some, slice_get_within}
use Rattle.std.proofs.lemmas.List.{map-append, length-map, take-append-drop, take_all, take_more}
use Rattle.std.proofs.lemmas.List.Elements.{filter-append, All-nil, All-cons, All-append, Contains-append_left, Contains-append_right}
use Rattle.sg_words.specs.declared.memory.Stop.{Stop}
use Rattle.sg_words.specs.declared.memory.Stop.TheVariants as stop
use Rattle.sg_coord.specs.declared.coord.Coord.{Coord}
use Rattle.sg_coord.specs.Bounds.{Bounds}
use Rattle.sg_coord.specs.Coord.{Inside, is_inside}
use Rattle.sg_coord.specs.Laws.{InsideTest}
use Rattle.sg_layout.specs.declared.shape.Shape.{Shape}
use Rattle.sg_layout.specs.Axes.{bounds_of_shape}
use Rattle.sg_flat.specs.declared.effects.Write.{Write}
use Rattle.sg_flat.specs.declared.effects.Turn.{Turn}
use Rattle.sg_flat.specs.declared.effects.RunFault.{RunFault}
use Rattle.sg_flat.specs.declared.state.FlatLayout.{FlatLayout}
use Rattle.sg_flat.specs.declared.state.FlatState.{FlatState}
use Rattle.sg_flat.specs.Effects.{writes_of}
use Rattle.sg_flat.specs.Kernel.{is_inside_of, outside_among, first_outside, first_full_layout}
use Rattle.sg_store.specs.StoreWords.{StoreWords}
use Rattle.sg_store.specs.StandsFor.{StandsFor}
use Rattle.sg_activate.specs.Activating.{wanted_below}
use Rattle.sg_ir.specs.declared.code.Inst.{Inst}
use Rattle.sg_exec.specs.declared.activation.turns.Turns.{Turns}
use Rattle.sg_exec.specs.declared.activation.turns.Turns.TheVariants.{Slice, Rows}
use Rattle.sg_exec.specs.Running.{turn_of}
use Rattle.sg_exec.specs.Standing.{shapes_of}
use Rattle.sg_exec.specs.steps.Machines.{Sees}
use Rattle.sg_exec.specs.steps.Moments.{AreNamedAt, slice_turn}
use Rattle.sg_exec.specs.steps.Turning.{turn_count, turns_in, AreNamedIn, wanted_of, writes_of_turn, Means, IsMeant, AreMeant, IsActive, TellsOutside, in_both, wants_from, ReachesAll, TurnsActivated}
use Rattle.sg_exec.specs.steps.Wants.{coords_in, AreWants}
use Rattle.sg_exec.proofs.Wanting.{equal_members, coords_more}
use Rattle.sg_exec.proofs.Following.{inside_head, writes_next}

-- ---- the first write outside

or_assoc : (a b c : Option RunFault) → option_or a (option_or b c) ≡ option_or (option_or a b) c
or_assoc None b c = refl
or_assoc (Some x) b c = refl

outside_append : (shapes : List Shape) (xs ys : List Turn) → first_outside shapes (xs ++ ys) ≡ option_or (first_outside shapes xs) (first_outside shapes ys)
outside_append shapes [] ys = refl
outside_append shapes (x ∷ xs) ys =
    ap (λ (o : Option RunFault). option_or (outside_among shapes x.at x.writes) o) (outside_append shapes xs ys)
    ∙ or_assoc (outside_among shapes x.at x.writes) (first_outside shapes xs) (first_outside shapes ys)

writes_append : (xs ys : List Turn) → writes_of (xs ++ ys) ≡ writes_of xs ++ writes_of ys
writes_append [] ys = refl
writes_append (x ∷ xs) ys =
    ap (λ (ws : List Write). x.writes ++ ws) (writes_append xs ys) ∙ sym (append_assoc x.writes (writes_of xs) (writes_of ys))

both_true : (a b : Bool) → IsTrue (a && b) → IsTrue a × IsTrue b
both_true true true is = (refl, refl)
both_true true false is = absurd (cc)
both_true false b is = absurd (cc)

pub right_told : (stores : List StoreWords) (xs ys : List Turn) (active : Bool) (r : Result Bool (Stop RunFault)) → TellsOutside stores xs (Ok active) → TellsOutside stores ys r → TellsOutside stores (xs ++ ys) (in_both active r)
right_told stores xs ys active (Ok others) first told = (
  outside_append (shapes_of stores) xs ys ∙ ap (λ (o : Option RunFault). option_or o (first_outside (shapes_of stores) ys)) first.0 ∙ told.0,
  λ all. let both = both_true active others all in
      subst (λ (ws : List Write). All (IsActive stores) ws) (sym (writes_append xs ys)) (All-append (IsActive stores) (writes_of xs) (writes_of ys) (first.1 both.0) (told.1 both.1)),
)
right_told stores xs ys active (Err stop.Memory) first told = tt
right_told stores xs ys active (Err (stop.Refused fault)) first told = outside_append (shapes_of stores) xs ys ∙ ap (λ (o : Option RunFault). option_or o (first_outside (shapes_of stores) ys)) first.0 ∙ told

left_told : (stores : List StoreWords) (xs ys : List Turn) (why : Stop RunFault) → TellsOutside stores xs (Err why) → TellsOutside stores (xs ++ ys) (Err why)
left_told stores xs ys stop.Memory told = tt
left_told stores xs ys (stop.Refused fault) told = outside_append (shapes_of stores) xs ys ∙ ap (λ (o : Option RunFault). option_or o (first_outside (shapes_of stores) ys)) told

in_halves : (f : Coord → Turn) (points : List Coord) (n : ℕ) → map f (take n points) ++ map f (drop n points) ≡ map f points
in_halves f points n = sym (map-append f (take n points) (drop n points)) ∙ ap (map f) (take-append-drop n points)

-- the left half has none outside: the right half tells
pub told_right : (stores : List StoreWords) (f : Coord → Turn) (points left right : List Coord) (n : ℕ) (active : Bool) (r : Result Bool (Stop RunFault)) → left ≡ take n points → right ≡ drop n points
    → TellsOutside stores (map f left) (Ok active) → TellsOutside stores (map f right) r → TellsOutside stores (map f points) (in_both active r)
told_right stores f points left right n active r is_left is_right first told =
    subst (λ (ts : List Turn). TellsOutside stores ts (in_both active r)) (ap (λ (l : List Coord). map f l ++ map f right) is_left ∙ ap (λ (l : List Coord). map f (take n points) ++ map f l) is_right ∙ in_halves f points n)
    (right_told stores (map f left) (map f right) active r first told)

-- the left half tells of a fault, or wants memory
pub told_left : (stores : List StoreWords) (f : Coord → Turn) (points left right : List Coord) (n : ℕ) (why : Stop RunFault) → left ≡ take n points → right ≡ drop n points
    → TellsOutside stores (map f left) (Err why) → TellsOutside stores (map f points) (Err why)
told_left stores f points left right n why is_left is_right told =
    subst (λ (ts : List Turn). TellsOutside stores ts (Err why)) (ap (λ (l : List Coord). map f l ++ map f right) is_left ∙ ap (λ (l : List Coord). map f (take n points) ++ map f l) is_right ∙ in_halves f points n)
    (left_told stores (map f left) (map f right) why told)

pub named_left : (stores : List StoreWords) (state : FlatState) (block : List Inst) (points left : List Coord) (n : ℕ) → left ≡ take n points → AreNamedAt stores state block points → AreNamedAt stores state block left
named_left stores state block points left n is named = λ at has.
    named at (subst (λ (l : List Coord). Contains l at) (take-append-drop n points) (Contains-append_left (take n points) (drop n points) at (subst (λ (l : List Coord). Contains l at) is has)))

pub named_right : (stores : List StoreWords) (state : FlatState) (block : List Inst) (points right : List Coord) (n : ℕ) → right ≡ drop n points → AreNamedAt stores state block points → AreNamedAt stores state block right
named_right stores state block points right n is named = λ at has.
    named at (subst (λ (l : List Coord). Contains l at) (take-append-drop n points) (Contains-append_right (take n points) (drop n points) at (subst (λ (l : List Coord). Contains l at) is has)))

-- one write more at an active coordinate
pub active_more : (stores : List StoreWords) (writes : List Write) (i : ℕ) (d : Write) → i < length writes → All (IsActive stores) (take i writes) → IsActive stores (get_or writes i d)
    → All (IsActive stores) (take (i + 1) writes)
active_more stores writes i d below so_far here =
    subst (λ (ws : List Write). All (IsActive stores) ws) (sym (take_more writes i d below))
    (All-append (IsActive stores) (take i writes) (get_or writes i d ∷ []) so_far (All-cons (IsActive stores) (get_or writes i d) [] here (All-nil (IsActive stores))))

pub active_all : (stores : List StoreWords) (writes : List Write) (i : ℕ) → length writes ≤ i → All (IsActive stores) (take i writes) → All (IsActive stores) writes
active_all stores writes i past all = subst (λ (ws : List Write). All (IsActive stores) ws) (take_all i writes past) all

-- one turn more, whose writes are at active coordinates
pub active_next : (f : Coord → Turn) (stores : List StoreWords) (xs : List Coord) (i : ℕ) (d : Coord) (writes : List Write) → i < length xs
    → All (IsActive stores) (writes_of (map f (take i xs))) → All (IsActive stores) writes → writes ≡ (f (get_or xs i d)).writes
    → All (IsActive stores) (writes_of (map f (take (i + 1) xs)))
active_next f stores xs i d writes below so_far all is =
    subst (λ (ws : List Write). All (IsActive stores) ws)
    (ap (λ (ws : List Write). writes_of (map f (take i xs)) ++ ws) is ∙ sym (writes_next f xs i d below))
    (All-append (IsActive stores) (writes_of (map f (take i xs))) writes so_far all)

pub active_at_end : (f : Coord → Turn) (stores : List StoreWords) (xs : List Coord) (i : ℕ) → length xs ≤ i → All (IsActive stores) (writes_of (map f (take i xs))) → All (IsActive stores) (writes_of (map f xs))
active_at_end f stores xs i past all = subst (λ (ys : List Coord). All (IsActive stores) (writes_of (map f ys))) (take_all i xs past) all

-- ---- the wanted coordinates of a list of writes

pub wanted_more : (bounds : Bounds) (layout : ℕ) (xs ys : List Write) → wanted_of bounds layout (xs ++ ys) ≡ wanted_of bounds layout xs ++ wanted_of bounds layout ys
wanted_more bounds layout xs ys =
    ap (map (λ (write : Write). write.at)) (filter-append (λ (write : Write). (write.layout == layout) && is_inside bounds write.at) xs ys)
    ∙ map-append (λ (write : Write). write.at) (filter (λ (write : Write). (write.layout == layout) && is_inside bounds write.at) xs) (filter (λ (write : Write). (write.layout == layout) && is_inside bounds write.at) ys)

-- the wants of the first writes, and of the others
pub wanted_parts : (bounds : Bounds) (layout k : ℕ) (writes : List Write) → wanted_of bounds layout writes ≡ wanted_of bounds layout (take k writes) ++ wanted_of bounds layout (drop k writes)
wanted_parts bounds layout k writes = ap (λ (ws : List Write). wanted_of bounds layout ws) (sym (take-append-drop k writes)) ∙ wanted_more bounds layout (take k writes) (drop k writes)

pub wanted_one : (bounds : Bounds) (layout : ℕ) (write : Write) → ((write.layout == layout) && is_inside bounds write.at) ≡ true → wanted_of bounds layout (write ∷ []) ≡ write.at ∷ []
wanted_one bounds layout write test = ap (map (λ (w : Write). w.at)) (cond-true ((write.layout == layout) && is_inside bounds write.at) (write ∷ []) [] test)

pub wanted_none : (bounds : Bounds) (layout : ℕ) (write : Write) → ((write.layout == layout) && is_inside bounds write.at) ≡ false → wanted_of bounds layout (write ∷ []) ≡ []
wanted_none bounds layout write test = ap (map (λ (w : Write). w.at)) (cond-false ((write.layout == layout) && is_inside bounds write.at) (write ∷ []) [] test)

-- one write more, which is wanted or isn't
pub wanted_push : (bounds : Bounds) (layout : ℕ) (writes : List Write) (i : ℕ) (d : Write) (old items now : List Coord) → i < length writes → items ≡ old ++ wanted_of bounds layout (take i writes)
    → (((get_or writes i d).layout == layout) && is_inside bounds (get_or writes i d).at) ≡ true → now ≡ items ++ (get_or writes i d).at ∷ [] → now ≡ old ++ wanted_of bounds layout (take (i + 1) writes)
wanted_push bounds layout writes i d old items now below so_far test pushed =
    pushed ∙ ap (λ (l : List Coord). l ++ (get_or writes i d).at ∷ []) so_far ∙ append_assoc old (wanted_of bounds layout (take i writes)) ((get_or writes i d).at ∷ [])
    ∙ ap (λ (l : List Coord). old ++ (wanted_of bounds layout (take i writes) ++ l)) (sym (wanted_one bounds layout (get_or writes i d) test))
    ∙ ap (λ (l : List Coord). old ++ l) (sym (wanted_more bounds layout (take i writes) (get_or writes i d ∷ [])) ∙ ap (wanted_of bounds layout) (sym (take_more writes i d below)))

pub wanted_skip : (bounds : Bounds) (layout : ℕ) (writes : List Write) (i : ℕ) (d : Write) (old items : List Coord) → i < length writes → items ≡ old ++ wanted_of bounds layout (take i writes)
    → (((get_or writes i d).layout == layout) && is_inside bounds (get_or writes i d).at) ≡ false → items ≡ old ++ wanted_of bounds layout (take (i + 1) writes)
wanted_skip bounds layout writes i d old items below so_far test =
    so_far ∙ ap (λ (l : List Coord). old ++ l) (sym (append-nil (wanted_of bounds layout (take i writes)))
    ∙ ap (λ (l : List Coord). wanted_of bounds layout (take i writes) ++ l) (sym (wanted_none bounds layout (get_or writes i d) test))
    ∙ sym (wanted_more bounds layout (take i writes) (get_or writes i d ∷ [])) ∙ ap (wanted_of bounds layout) (sym (take_more writes i d below)))

both_tests : (a b : Bool) → a ≡ true → b ≡ true → (a && b) ≡ true
both_tests a b is_a is_b = rw (is_a, is_b) refl

-- what is wanted is inside
wanted_inside : (bounds : Bounds) (layout : ℕ) (writes : List Write) → InsideTest → All (Inside bounds) (wanted_of bounds layout writes)
wanted_inside bounds layout [] law = All-nil (Inside bounds)
wanted_inside bounds layout (write ∷ writes) law = by_test (write.layout == layout) (is_inside bounds write.at) refl (wanted_inside bounds layout writes law)
  where
    by_test : (a b : Bool) → is_inside bounds write.at ≡ b → All (Inside bounds) (wanted_of bounds layout writes)
        → All (Inside bounds) (map (λ (w : Write). w.at) (cond (a && b) (write ∷ filter (λ (w : Write). (w.layout == layout) && is_inside bounds w.at) writes) (filter (λ (w : Write). (w.layout == layout) && is_inside bounds w.at) writes)))
    by_test true true is rest = All-cons (Inside bounds) write.at (wanted_of bounds layout writes) ((law bounds write.at).0 is) rest
    by_test true false is rest = rest
    by_test false b is rest = rest

-- so is all that the turns are meant to want
pub means_inside : (stores : List StoreWords) (turns : Turns) (bounds : Bounds) (layout count : ℕ) (list : ℕ → List Coord) → InsideTest → count ≡ turn_count turns
    → Means stores turns bounds layout list → (piece : ℕ) → piece < count → All (Inside bounds) (list piece)
means_inside stores turns bounds layout count list law same means piece below =
    subst (λ (l : List Coord). All (Inside bounds) l) (sym (means.lists piece (subst (λ (n : ℕ). piece < n) same below)))
    (wanted_inside bounds layout (writes_of_turn (turns_in stores means.state turns) piece) law)

pub inside_more : (bounds : Bounds) (layout : ℕ) (writes : List Write) (old now : List Coord) → InsideTest → now ≡ old ++ wanted_of bounds layout writes → All (Inside bounds) old → All (Inside bounds) now
inside_more bounds layout writes old now law is all =
    subst (λ (l : List Coord). All (Inside bounds) l) (sym is) (All-append (Inside bounds) old (wanted_of bounds layout writes) all (wanted_inside bounds layout writes law))

-- the turn with a number
writes_at_map : {X : Type 0} (f : X → Turn) (xs : List X) (i : ℕ) (d : X) → i < length xs → writes_of_turn (map f xs) i ≡ (f (get_or xs i d)).writes
writes_at_map f [] i d below = absurd (omega arith)
writes_at_map f (y ∷ ys) zero d below = refl
writes_at_map f (y ∷ ys) (suc i) d below = writes_at_map f ys i d (omega arith)

-- what an iteration of a slice wants, as its lists say
pub slice_piece : (stores : List StoreWords) (turns : Turns) (points : Bor (List Coord)) (block : Bor (List Inst)) (bounds : Bounds) (layout count piece : ℕ) (list : ℕ → List Coord) (d : Coord) (writes : List Write)
    → turns ≡ Slice points block → count ≡ turn_count turns → piece < count → (means : Means stores turns bounds layout list)
    → writes ≡ (slice_turn stores means.state block.now (get_or points.now piece d)).writes → wanted_of bounds layout writes ≡ list piece
slice_piece stores turns points block bounds layout count piece list d writes is same below means wrote =
    let long : count ≡ length points.now = same ∙ ap turn_count is in
    let low : piece < length points.now = omega arith in
    ap (wanted_of bounds layout) (wrote ∙ sym (writes_at_map (slice_turn stores means.state block.now) points.now piece d low)
    ∙ ap (λ (t : Turns). writes_of_turn (turns_in stores means.state t) piece) (sym is))
    ∙ sym (means.lists piece (omega arith))

-- and of a listed write
pub row_piece : (stores : List StoreWords) (turns : Turns) (rows : Bor (List Write)) (bounds : Bounds) (layout count piece : ℕ) (list : ℕ → List Coord) (d : Write)
    → turns ≡ Rows rows → count ≡ turn_count turns → piece < count → (means : Means stores turns bounds layout list)
    → wanted_of bounds layout (get_or rows.now piece d ∷ []) ≡ list piece
row_piece stores turns rows bounds layout count piece list d is same below means =
    let long : count ≡ length rows.now = same ∙ ap turn_count is in
    let low : piece < length rows.now = omega arith in
    ap (wanted_of bounds layout) (sym (writes_at_map turn_of rows.now piece d low) ∙ ap (λ (t : Turns). writes_of_turn (turns_in stores means.state t) piece) (sym is))
    ∙ sym (means.lists piece (omega arith))

-- the iterations of a slice are named
pub slice_named : (stores : List StoreWords) (state : FlatState) (turns : Turns) (points : Bor (List Coord)) (block : Bor (List Inst)) → turns ≡ Slice points block → AreNamedIn stores state turns → AreNamedAt stores state block.now points.now
slice_named stores state turns points block is named = subst (λ (t : Turns). AreNamedIn stores state t) is named

pub low_point : (turns : Turns) (points : Bor (List Coord)) (block : Bor (List Inst)) (count piece : ℕ) → turns ≡ Slice points block → count ≡ turn_count turns → piece < count → piece < length points.now
low_point turns points block count piece is same below = let long : count ≡ length points.now = same ∙ ap turn_count is in omega arith

-- ---- piece after piece

writes_take : (turns : List Turn) (n : ℕ) → writes_of (take (suc n) turns) ≡ writes_of (take n turns) ++ writes_of_turn turns n
writes_take [] zero = refl
writes_take [] (suc n) = refl
writes_take (turn ∷ turns) zero = append-nil turn.writes
writes_take (turn ∷ turns) (suc n) =
    ap (λ (ws : List Write). turn.writes ++ ws) (writes_take turns n) ∙ sym (append_assoc turn.writes (writes_of (take n turns)) (writes_of_turn turns n))

below_take : (bounds : Bounds) (layout : ℕ) (turns : List Turn) (list : ℕ → List Coord) (n : ℕ) → ((k : ℕ) → k < n → list k ≡ wanted_of bounds layout (writes_of_turn turns k))
    → wanted_below list n ≡ wanted_of bounds layout (writes_of (take n turns))
below_take bounds layout turns list zero lists = refl
below_take bounds layout turns list (suc n) lists =
    ap (λ (l : List Coord). l ++ list n) (below_take bounds layout turns list n (λ k low. lists k (omega arith)))
    ∙ ap (λ (l : List Coord). wanted_of bounds layout (writes_of (take n turns)) ++ l) (lists n (omega arith))
    ∙ sym (wanted_more bounds layout (writes_of (take n turns)) (writes_of_turn turns n))
    ∙ ap (wanted_of bounds layout) (sym (writes_take turns n))

count_is : (stores : List StoreWords) (state : FlatState) (turns : Turns) → length (turns_in stores state turns) ≡ turn_count turns
count_is stores state (Slice points block) = length-map points.now (slice_turn stores state block.now)
count_is stores state (Rows rows) = length-map rows.now turn_of

-- the lists of what each turn wants
abbrev pub lists_of : List StoreWords → FlatState → Turns → Bounds → ℕ → ℕ → List Coord
lists_of stores state turns bounds layout k = wanted_of bounds layout (writes_of_turn (turns_in stores state turns) k)

pub means_lists : (stores : List StoreWords) (turns : Turns) (number layout : ℕ) (store : StoreWords) (wanted : List Coord) (bounds : Bounds) → layout ≡ number → bounds ≡ bounds_of_shape store.shape → (meant : IsMeant stores turns number store wanted)
    → Means stores turns bounds layout (lists_of stores meant.state turns (bounds_of_shape store.shape) number)
means_lists stores turns number layout store wanted bounds same_number same meant = record {
  state = meant.state;
  sees = meant.sees;
  named = meant.named;
  lists = λ k low.
      ap (λ (b : Bounds). wanted_of b number (writes_of_turn (turns_in stores meant.state turns) k)) (sym same)
      ∙ ap (λ (n : ℕ). wanted_of bounds n (writes_of_turn (turns_in stores meant.state turns) k)) (sym same_number);
}

pub below_all : (stores : List StoreWords) (turns : Turns) (number : ℕ) (store : StoreWords) (wanted : List Coord) (count : ℕ) → count ≡ turn_count turns → (meant : IsMeant stores turns number store wanted)
    → wanted_below (lists_of stores meant.state turns (bounds_of_shape store.shape) number) count ≡ wanted
below_all stores turns number store wanted count same meant =
    let made = turns_in stores meant.state turns in
    let long : length made ≤ count = omega (arith, count_is stores meant.state turns, same) in
    below_take (bounds_of_shape store.shape) number made (lists_of stores meant.state turns (bounds_of_shape store.shape) number) count (λ k low. refl)
    ∙ ap (λ (ts : List Turn). wanted_of (bounds_of_shape store.shape) number (writes_of ts)) (take_all count made long)
    ∙ sym meant.list

-- ---- layout by layout

wants_count : (k : ℕ) (stores : List StoreWords) (turns : List Turn) → length (wants_from k stores turns) ≡ length stores
wants_count k [] turns = refl
wants_count k (store ∷ stores) turns = ap suc (wants_count (suc k) stores turns)

wants_at : (k : ℕ) (stores : List StoreWords) (turns : List Turn) (j : ℕ) (store : StoreWords) (wanted : List Coord) → slice_get stores j ≡ Some store → slice_get (wants_from k stores turns) j ≡ Some wanted
    → wanted ≡ wanted_of (bounds_of_shape store.shape) (k + j) (writes_of turns)
wants_at k [] turns j store wanted is is_wanted = absurd (cc)
wants_at k (first ∷ stores) turns zero store wanted is is_wanted =
    let here : k ≡ k + 0 = omega arith in
    sym (same_Some _ _ is_wanted) ∙ ap (λ (s : StoreWords). wanted_of (bounds_of_shape s.shape) k (writes_of turns)) (same_Some _ _ is) ∙ ap (λ (n : ℕ). wanted_of (bounds_of_shape store.shape) n (writes_of turns)) here
wants_at k (first ∷ stores) turns (suc j) store wanted is is_wanted =
    let next : suc k + j ≡ k + suc j = omega arith in
    wants_at (suc k) stores turns j store wanted is is_wanted ∙ ap (λ (n : ℕ). wanted_of (bounds_of_shape store.shape) n (writes_of turns)) next

pub are_meant : (stores : List StoreWords) (state : FlatState) (turns : Turns) → Sees stores state → AreNamedIn stores state turns → AreMeant stores turns (wants_from 0 stores (turns_in stores state turns))
are_meant stores state turns sees named = record {
  count = wants_count 0 stores (turns_in stores state turns);
  each = λ number store wanted is is_wanted. record {
    state = state;
    sees = sees;
    named = named;
    list = (let here : 0 + number ≡ number = omega arith in
        wants_at 0 stores (turns_in stores state turns) number store wanted is is_wanted
        ∙ ap (λ (n : ℕ). wanted_of (bounds_of_shape store.shape) n (writes_of (turns_in stores state turns))) here);
  };
}

-- ---- if no write is outside

store_at : (stores : List StoreWords) (j : ℕ) → j < length stores → (store : StoreWords) × (slice_get stores j ≡ Some store)
store_at [] j below = absurd (omega arith)
store_at (store ∷ stores) zero below = (store, refl)
store_at (store ∷ stores) (suc j) below = store_at stores j (omega arith)

shape_at : (stores : List StoreWords) (j : ℕ) (store : StoreWords) → slice_get stores j ≡ Some store → slice_get (shapes_of stores) j ≡ Some store.shape
shape_at [] j store is = absurd (cc)
shape_at (first ∷ stores) zero store is = ap (λ (s : StoreWords). Some s.shape) (same_Some _ _ is)
shape_at (first ∷ stores) (suc j) store is = shape_at stores j store is

same_kept : (write : Write) (xs ys : List Write) (here inside : Bool) → (here ≡ true → inside ≡ true) → map (λ (w : Write). w.at) xs ≡ map (λ (w : Write). w.at) ys
    → map (λ (w : Write). w.at) (cond (here && inside) (write ∷ xs) xs) ≡ map (λ (w : Write). w.at) (cond here (write ∷ ys) ys)
same_kept write xs ys true inside all same = rw (all refl) (ap (λ (l : List Coord). write.at ∷ l) same)
same_kept write xs ys false inside all same = same

turn_inside : (shapes : List Shape) (number : ℕ) (shape : Shape) (at : Coord) (writes : List Write) → slice_get shapes number ≡ Some shape → outside_among shapes at writes ≡ None
    → wanted_of (bounds_of_shape shape) number writes ≡ coords_in number writes
turn_inside shapes number shape at [] is none = refl
turn_inside shapes number shape at (write ∷ writes) is none =
    let head = inside_head shapes at write writes none in
    same_kept write (filter (λ (w : Write). (w.layout == number) && is_inside (bounds_of_shape shape) w.at) writes) (filter (λ (w : Write). w.layout == number) writes)
    (write.layout == number) (is_inside (bounds_of_shape shape) write.at)
    (λ same. sym (ap (λ (o : Option Shape). is_inside_of o write.at) (ap (slice_get shapes) (eqb-true write.layout number same) ∙ is)) ∙ head.0)
    (turn_inside shapes number shape at writes is head.1)

none_both : (a b : Option RunFault) → option_or a b ≡ None → (a ≡ None) × (b ≡ None)
none_both None b is = (refl, is)
none_both (Some fault) b is = absurd (cc)

turns_inside : (shapes : List Shape) (number : ℕ) (shape : Shape) (turns : List Turn) → slice_get shapes number ≡ Some shape → first_outside shapes turns ≡ None
    → wanted_of (bounds_of_shape shape) number (writes_of turns) ≡ coords_in number (writes_of turns)
turns_inside shapes number shape [] is none = refl
turns_inside shapes number shape (turn ∷ turns) is none =
    let both = none_both (outside_among shapes turn.at turn.writes) (first_outside shapes turns) none in
    wanted_more (bounds_of_shape shape) number turn.writes (writes_of turns)
    ∙ ap (λ (l : List Coord). l ++ wanted_of (bounds_of_shape shape) number (writes_of turns)) (turn_inside shapes number shape turn.at turn.writes is both.0)
    ∙ ap (λ (l : List Coord). coords_in number turn.writes ++ l) (turns_inside shapes number shape turns is both.1)
    ∙ sym (coords_more number turn.writes (writes_of turns))

-- so the wanted coordinates are those of the writes
pub are_wants : (stores : List StoreWords) (flats : List FlatLayout) (turns : List Turn) → first_outside (shapes_of stores) turns ≡ None → AreWants flats (wants_from 0 stores turns) (writes_of turns)
are_wants stores flats turns none = λ number flat list is_flat is_list.
    let low : number < length (wants_from 0 stores turns) = slice_get_within (wants_from 0 stores turns) number list is_list in
    let found = store_at stores number (omega (arith, low, wants_count 0 stores turns)) in
    let here : 0 + number ≡ number = omega arith in
    equal_members (flat.active ++ list) (flat.active ++ coords_in number (writes_of turns))
    (ap (λ (l : List Coord). flat.active ++ l)
    (wants_at 0 stores turns number found.0 list found.1 is_list
    ∙ ap (λ (n : ℕ). wanted_of (bounds_of_shape found.0.shape) n (writes_of turns)) here
    ∙ turns_inside (shapes_of stores) number found.0.shape turns (shape_at stores number found.0 found.1) none))

-- ---- answers that may be Ok

pub ok_anyhow : {A E P : Type 0} (r : Result A E) → P → OnOk r P
ok_anyhow (Ok a) holds = holds
ok_anyhow (Err e) holds = tt

pub if_ok : {A E P Q : Type 0} (r : Result A E) → (P → Q) → OnOk r P → OnOk r Q
if_ok (Ok a) f holds = f holds
if_ok (Err e) f holds = tt

pub on_err : {A E P : Type 0} (r : Result A E) → P → OnErr r P
on_err (Ok a) holds = tt
on_err (Err e) holds = holds

pub err_so : {A E P Q : Type 0} (r : Result A E) → OnErr r P → (P → Q) → OnErr r Q
err_so (Ok a) holds then = tt
err_so (Err e) holds then = then holds

-- ---- from what was found to what is told

pub outside_stops : {A : Type 0} (view : A → List StoreWords) (stores : List StoreWords) (turns : List Turn) (r : Result A (Stop RunFault)) (e : Stop RunFault) → IsErrAnd r (λ x. x ≡ e) → TellsOutside stores turns (Err e)
    → TurnsActivated view stores turns r
outside_stops view stores turns (Ok x) e is told = absurd is
outside_stops view stores turns (Err stop.Memory) e is told = tt
outside_stops view stores turns (Err (stop.Refused fault)) e is told = inl (subst (λ (x : Stop RunFault). TellsOutside stores turns (Err x)) (sym is) told)

pub all_told : {A : Type 0} (view : A → List StoreWords) (stores : List StoreWords) (turns : List Turn) (r : Result A (Stop RunFault)) → first_outside (shapes_of stores) turns ≡ None
    → ReachesAll view stores (wants_from 0 stores turns) r → TurnsActivated view stores turns r
all_told view stores turns (Ok copies) none reached = (none, reached)
all_told view stores turns (Err stop.Memory) none reached = tt
all_told view stores turns (Err (stop.Refused fault)) none reached = inr (none, reached)

pub stands_seen : (stores : List StoreWords) (state : FlatState) → AllZip StandsFor stores state.layouts → Sees stores state
stands_seen stores state all = record { stand = all }

-- which fault was told
pub activated_fault : {A : Type 0} (view : A → List StoreWords) (stores : List StoreWords) (turns : List Turn) (e : Stop RunFault) (fault : RunFault) → TurnsActivated view stores turns (Err e) → e ≡ stop.Refused fault
    → (first_outside (shapes_of stores) turns ≡ Some fault)
    ⊎ ((first_outside (shapes_of stores) turns ≡ None) × ((flats : List FlatLayout) (made : List Turn) → AllZip StandsFor stores flats → AreWants flats (wants_from 0 stores turns) (writes_of made) → first_full_layout 0 (shapes_of stores) flats made ≡ Some fault))
activated_fault view stores turns e fault ran is = subst (λ (x : Stop RunFault). TurnsActivated view stores turns (Err x)) is ran
