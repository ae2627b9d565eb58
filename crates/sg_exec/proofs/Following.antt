-- One write or one turn after another.
use Rattle.std.proofs.Common.{pos, ◌≡◌, ℕ, zero, suc, ◌+◌, ◌<◌, ◌≤◌, Bool, true, false, List, [], ◌∷◌, ◌++◌, map, length, take, drop, get_or, cond, Option, Some, None, Result, Ok, Err, refl, sym, ap, ◌∙◌, subst, arith, append_assoc, append-nil}
use Rattle.std.specs.Prelude.{slice_get, IsSome, IfSome}
use Rattle.std.specs.Option.{option_or}
use Rattle.std.proofs.lemmas.List.{take_more, take_all, drop_all, map-append}
use Rattle.std.proofs.lemmas.List.Concat.{flat_map-append}
use Rattle.std.specs.Result.{IsErrAnd}
use Rattle.sg_words.specs.declared.memory.Stop.{Stop}
use Rattle.sg_words.specs.declared.memory.Stop.TheVariants as stop
use Rattle.sg_coord.specs.declared.coord.Coord.{Coord}
use Rattle.sg_coord.specs.Coord.{is_inside}
use Rattle.sg_layout.specs.declared.shape.Shape.{Shape}
use Rattle.sg_layout.specs.Axes.{bounds_of_shape}
use Rattle.sg_flat.specs.declared.effects.Way.TheVariants.{Own}
use Rattle.sg_flat.specs.declared.effects.Write.{Write}
use Rattle.sg_flat.specs.declared.effects.Turn.{Turn}
use Rattle.sg_flat.specs.declared.effects.RunFault.{RunFault}
use Rattle.sg_flat.specs.declared.effects.RunFault.TheVariants.{WriteOutside}
use Rattle.sg_flat.specs.declared.state.FlatLayout.{FlatLayout}
use Rattle.sg_flat.specs.Effects.{writes_of}
use Rattle.sg_flat.specs.Kernel.{is_inside_of, outside_among, first_outside}
use Rattle.sg_store.specs.StoreWords.{StoreWords}
use Rattle.sg_store.specs.Walks.{cell_in}
use Rattle.sg_exec.specs.Standing.{shapes_of}
use Rattle.sg_exec.specs.steps.Landing.{Lands}
use Rattle.sg_exec.specs.steps.Turning.{IsActiveAt}
use Rattle.sg_exec.specs.steps.Wants.{AreWants, TurnWanted, AllWanted}
use Rattle.sg_exec.proofs.StoresLanded.{lands_more}
use Rattle.sg_exec.proofs.Going.{drop_item}

-- a write that names nothing
abbrev pub no_write : Write
no_write = record { layout = 0; place = 0; stmt = 0; at = record { n = 0; a = pos 0; b = pos 0; c = pos 0 }; way = Own; value = 0 }

-- ---- landing

pub lands_next : (olds mids news : List StoreWords) (writes : List Write) (i : ℕ) (d : Write) → i < length writes → Lands olds mids (take i writes) → Lands mids news (get_or writes i d ∷ []) → Lands olds news (take (i + 1) writes)
lands_next olds mids news writes i d below first second =
    subst (λ (ws : List Write). Lands olds news ws) (sym (take_more writes i d below)) (lands_more olds mids news (take i writes) (get_or writes i d ∷ []) first second)

-- the writes of turns, one more
pub writes_next : {X : Type 0} (f : X → Turn) (xs : List X) (i : ℕ) (d : X) → i < length xs → writes_of (map f (take (i + 1) xs)) ≡ writes_of (map f (take i xs)) ++ (f (get_or xs i d)).writes
writes_next {X} f xs i d below =
    ap (λ (ys : List X). writes_of (map f ys)) (take_more xs i d below)
    ∙ ap writes_of (map-append f (take i xs) (get_or xs i d ∷ []))
    ∙ flat_map-append (λ (turn : Turn). turn.writes) (map f (take i xs)) (f (get_or xs i d) ∷ [])
    ∙ ap (λ (ws : List Write). writes_of (map f (take i xs)) ++ ws) (append-nil (f (get_or xs i d)).writes)

-- ---- writes outside

default_any : {X : Type 0} (ws : List X) (k : ℕ) (e e' : X) → k < length ws → get_or ws k e ≡ get_or ws k e'
default_any [] k e e' low = absurd (omega arith)
default_any (w ∷ ws) zero e e' low = refl
default_any (w ∷ ws) (suc k) e e' low = default_any ws k e e' (omega arith)

pub inside_head : (shapes : List Shape) (at : Coord) (write : Write) (writes : List Write) → outside_among shapes at (write ∷ writes) ≡ None
    → (is_inside_of (slice_get shapes write.layout) write.at ≡ true) × (outside_among shapes at writes ≡ None)
inside_head shapes at write writes none = by_test (is_inside_of (slice_get shapes write.layout) write.at) refl none
  where
    by_test : (b : Bool) → is_inside_of (slice_get shapes write.layout) write.at ≡ b → cond b (outside_among shapes at writes) (Some (WriteOutside write.stmt at)) ≡ None
        → (is_inside_of (slice_get shapes write.layout) write.at ≡ true) × (outside_among shapes at writes ≡ None)
    by_test true is none' = (is, none')
    by_test false is none' = absurd (cc)

pub inside_next : (shapes : List Shape) (at : Coord) (writes : List Write) (i : ℕ) (d : Write) → i < length writes → outside_among shapes at (drop i writes) ≡ None
    → (is_inside_of (slice_get shapes (get_or writes i d).layout) (get_or writes i d).at ≡ true) × (outside_among shapes at (drop (i + 1) writes) ≡ None)
inside_next shapes at writes i d below none =
    inside_head shapes at (get_or writes i d) (drop (i + 1) writes)
    (ap (outside_among shapes at) (sym (drop_item writes i (get_or writes i d) below (default_any writes i d (get_or writes i d) below))) ∙ none)

pub inside_later : (shapes : List Shape) (at : Coord) (writes : List Write) (i : ℕ) → i < length writes → outside_among shapes at (drop i writes) ≡ None → outside_among shapes at (drop (i + 1) writes) ≡ None
inside_later shapes at [] i below none = absurd (omega arith)
inside_later shapes at (write ∷ writes) i below none = (inside_next shapes at (write ∷ writes) i write below none).1

-- where a coordinate has a cell it is inside
active_in : (store : StoreWords) (at : Coord) → IsSome (cell_in store at) → is_inside (bounds_of_shape store.shape) at ≡ true
active_in store at active = by_test (is_inside (bounds_of_shape store.shape) at) _ active
  where
    by_test : (b : Bool) (cell : Option ℕ) → IsSome (cond b cell None) → b ≡ true
    by_test true cell some = refl
    by_test false cell some = absurd (cc)

active_inside : (stores : List StoreWords) (layout : ℕ) (at : Coord) → IsActiveAt stores layout at → is_inside_of (slice_get (shapes_of stores) layout) at ≡ true
active_inside [] layout at active = absurd (cc)
active_inside (store ∷ stores) zero at active = active_in store at active
active_inside (store ∷ stores) (suc layout) at active = active_inside stores layout at active

pub last_inside : (stores : List StoreWords) (layout : ℕ) (at : Coord) (last : Option (ℕ × Coord)) → IfSome last (λ (it : ℕ × Coord). IsActiveAt stores it.0 it.1) → last ≡ Some (layout, at)
    → is_inside_of (slice_get (shapes_of stores) layout) at ≡ true
last_inside stores layout at last active is = active_inside stores layout at (subst (λ (o : Option (ℕ × Coord)). IfSome o (λ (it : ℕ × Coord). IsActiveAt stores it.0 it.1)) is active)

-- ---- wants

pub wants_all : (flats : List FlatLayout) (wants : List (List Coord)) (earlier writes : List Write) (i : ℕ) → length writes ≤ i → AreWants flats wants (earlier ++ take i writes) → AreWants flats wants (earlier ++ writes)
wants_all flats wants earlier writes i past are = subst (λ (ws : List Write). AreWants flats wants (earlier ++ ws)) (take_all i writes past) are

pub wants_next : (flats : List FlatLayout) (wants : List (List Coord)) (earlier writes : List Write) (i : ℕ) (d : Write) → i < length writes
    → AreWants flats wants ((earlier ++ take i writes) ++ get_or writes i d ∷ []) → AreWants flats wants (earlier ++ take (i + 1) writes)
wants_next flats wants earlier writes i d below are =
    subst (λ (ws : List Write). AreWants flats wants ws)
    (append_assoc earlier (take i writes) (get_or writes i d ∷ []) ∙ ap (λ (ws : List Write). earlier ++ ws) (sym (take_more writes i d below))) are

pub wants_turn : {X : Type 0} (f : X → Turn) (flats : List FlatLayout) (wants : List (List Coord)) (xs : List X) (i : ℕ) (d : X) (writes : List Write) → i < length xs
    → AreWants flats wants (writes_of (map f (take i xs)) ++ writes) → writes ≡ (f (get_or xs i d)).writes → AreWants flats wants (writes_of (map f (take (i + 1) xs)))
wants_turn f flats wants xs i d writes below are is =
    subst (λ (ws : List Write). AreWants flats wants ws)
    (ap (λ (ws : List Write). writes_of (map f (take i xs)) ++ ws) is ∙ sym (writes_next f xs i d below)) are

-- the search for a turn with a write outside
pub turn_split : {X : Type 0} (f : X → Turn) (shapes : List Shape) (xs : List X) (i : ℕ) (d : X) → i < length xs
    → first_outside shapes (map f (drop i xs)) ≡ option_or (outside_among shapes (f (get_or xs i d)).at (f (get_or xs i d)).writes) (first_outside shapes (map f (drop (i + 1) xs)))
turn_split {X} f shapes xs i d below =
    ap (λ (ys : List X). first_outside shapes (map f ys)) (drop_item xs i (get_or xs i d) below (default_any xs i d (get_or xs i d) below))

pub none_next : {X : Type 0} (f : X → Turn) (shapes : List Shape) (xs : List X) (i : ℕ) (d : X) (writes : List Write) (at : Coord) (whole : Option RunFault) → i < length xs
    → first_outside shapes (map f (drop i xs)) ≡ whole → outside_among shapes at writes ≡ None → at ≡ (f (get_or xs i d)).at → writes ≡ (f (get_or xs i d)).writes
    → first_outside shapes (map f (drop (i + 1) xs)) ≡ whole
none_next f shapes xs i d writes at whole below so_far none is_at is_writes =
    sym (turn_split f shapes xs i d below ∙ ap (λ (o : Option RunFault). option_or o (first_outside shapes (map f (drop (i + 1) xs))))
    (ap (λ (x : Coord). outside_among shapes x (f (get_or xs i d)).writes) (sym is_at) ∙ ap (outside_among shapes at) (sym is_writes) ∙ none)) ∙ so_far

pub fault_here : {X : Type 0} (f : X → Turn) (shapes : List Shape) (xs : List X) (i : ℕ) (d : X) (writes : List Write) (at : Coord) (whole : Option RunFault) (fault : RunFault) → i < length xs
    → first_outside shapes (map f (drop i xs)) ≡ whole → outside_among shapes at writes ≡ Some fault → at ≡ (f (get_or xs i d)).at → writes ≡ (f (get_or xs i d)).writes
    → whole ≡ Some fault
fault_here f shapes xs i d writes at whole fault below so_far some is_at is_writes =
    sym so_far ∙ turn_split f shapes xs i d below ∙ ap (λ (o : Option RunFault). option_or o (first_outside shapes (map f (drop (i + 1) xs))))
    (ap (λ (x : Coord). outside_among shapes x (f (get_or xs i d)).writes) (sym is_at) ∙ ap (outside_among shapes at) (sym is_writes) ∙ some)

-- an error of a turn goes on
pub err_wanted : {A : Type 0} (view : A → List (List Coord)) (shapes : List Shape) (flats : List FlatLayout) (turns : List Turn) (old now : List (List Coord)) (at : Coord) (writes : List Write) (r : Result A (Stop RunFault)) (e : Stop RunFault)
    → IsErrAnd r (λ x. x ≡ e) → TurnWanted shapes flats old now at writes (Err e) → ((fault : RunFault) → outside_among shapes at writes ≡ Some fault → first_outside shapes turns ≡ Some fault) → AllWanted view shapes flats turns r
err_wanted view shapes flats turns old now at writes (Ok x) e is h on = absurd is
err_wanted view shapes flats turns old now at writes (Err stop.Memory) e is h on = tt
err_wanted view shapes flats turns old now at writes (Err (stop.Refused fault)) e is h on =
    on fault (subst (λ (x : Stop RunFault). TurnWanted shapes flats old now at writes (Err x)) (sym is) h)

pub none_at_end : {X : Type 0} (f : X → Turn) (shapes : List Shape) (xs : List X) (i : ℕ) (whole : Option RunFault) → length xs ≤ i → first_outside shapes (map f (drop i xs)) ≡ whole → whole ≡ None
none_at_end {X} f shapes xs i whole past so_far = sym so_far ∙ ap (λ (ys : List X). first_outside shapes (map f ys)) (drop_all i xs past)

pub wants_at_end : {X : Type 0} (f : X → Turn) (flats : List FlatLayout) (wants : List (List Coord)) (xs : List X) (i : ℕ) → length xs ≤ i → AreWants flats wants (writes_of (map f (take i xs))) → AreWants flats wants (writes_of (map f xs))
wants_at_end {X} f flats wants xs i past are = subst (λ (ys : List X). AreWants flats wants (writes_of (map f ys))) (take_all i xs past) are
