-- What hands of workers have, put together.
use Rattle.std.proofs.Common.{◌≡◌, ℕ, zero, suc, ◌+◌, ◌-◌, ◌*◌, ◌/◌, ◌%◌, ◌<◌, ◌≤◌, List, [], ◌∷◌, ◌++◌, length, map, take, drop, Result, Ok, Err, refl, sym, ap, ◌∙◌, subst, arith, append_assoc}
use Rattle.std.specs.Prelude.{IfOk, IfSome, min}
use Rattle.std.specs.List.{flat_map}
use Rattle.std.proofs.Math.Nat.{mul-le-mul_right, div-eq_of_lt, mod-eq_of_lt}
use Rattle.std.proofs.lemmas.List.{append-nil, drop-drop, map-append}
use Rattle.std.proofs.lemmas.List.Elements.{All-append}
use Rattle.std.proofs.lemmas.Option.{slice_get_within}
use Rattle.sg_coord.specs.Slices.{slice_start}
use Rattle.sg_words.specs.declared.memory.Memory.{Memory}
use Rattle.sg_store.specs.StoreWords.{StoreWords}
use Rattle.sg_flat.specs.declared.state.FlatState.{FlatState}
use Rattle.sg_exec.specs.steps.Machines.{AreCells, IsCellOf}
use Rattle.sg_coord.specs.declared.coord.Coord.{Coord}
use Rattle.sg_accum.specs.declared.seat.AccSeat.{AccSeat}
use Rattle.sg_accum.specs.Folding.{given_to, given_of, share_of, handed_of}
use Rattle.sg_exec.specs.declared.lanes.cell_write.CellWrite.{CellWrite}
use Rattle.sg_exec.specs.declared.results.shared.Accumulated.{Accumulated}
use Rattle.sg_exec.specs.declared.results.shared.Owned.{Owned}
use Rattle.sg_exec.specs.declared.workers.state.Hand.{Hand}
use Rattle.sg_exec.specs.steps.Racing.{contributions, joining, last_own, between, AreSeats, HaveGiven, HaveShares, HasWorked, HasRun, AreSplit, AreJoined, IsDivided, IsOfBoth}
use Rattle.sg_exec.specs.steps.Puts.{kept_writes}
use Rattle.sg_exec.proofs.Coming.{come_same, come_on, come_both}
use Rattle.sg_exec.proofs.Giving.{at_below, given_both, gave_more}

abbrev pub Writes : Type 0
Writes = List CellWrite

abbrev pub joined_writes : List Writes → Writes
joined_writes turns = flat_map (λ (ws : Writes). ws) turns

pub flat-append : {X A : Type 0} (f : X → List A) (xs ys : List X) → flat_map f (xs ++ ys) ≡ flat_map f xs ++ flat_map f ys
flat-append f [] ys = refl
flat-append {X} {A} f (x ∷ xs) ys = ap (λ (zs : List A). f x ++ zs) (flat-append f xs ys) ∙ sym (append_assoc (f x) (flat_map f xs) (flat_map f ys))

-- ---- shares

pub half_left : (share workers : ℕ) → workers ≤ share → workers - workers / 2 ≤ share - share / 2
half_left share workers more = omega arith

pub half_right : (share workers : ℕ) → workers ≤ share → workers / 2 ≤ share / 2
half_right share workers more = omega arith

pub shares_left : (accumulated : List Accumulated) (olds nows others : List AccSeat) (workers half : ℕ) → half ≡ workers / 2 → AreSeats accumulated olds → AreSeats accumulated nows → AreSeats accumulated others → AreSplit olds nows others
    → HaveShares workers olds → HaveShares (workers - half) nows
shares_left accumulated olds nows others workers half is was are also split shares = λ k now at.
    let below : k < length nows = slice_get_within nows k now at in
    let a = was.long in let b = are.long in let c = also.long in
    let old = at_below olds k (omega arith) in
    let other = at_below others k (omega arith) in
    let one = split k old.0 now other.0 old.1 at other.1 in
    subst (λ (h : ℕ). workers - h ≤ share_of now) (sym is)
    (subst (λ (n : ℕ). workers - workers / 2 ≤ n) (sym one.share_left) (half_left (share_of old.0) workers (shares k old.0 old.1)))

pub shares_right : (accumulated : List Accumulated) (olds nows others : List AccSeat) (workers half : ℕ) → half ≡ workers / 2 → AreSeats accumulated olds → AreSeats accumulated nows → AreSeats accumulated others → AreSplit olds nows others
    → HaveShares workers olds → HaveShares half others
shares_right accumulated olds nows others workers half is was are also split shares = λ k other at.
    let below : k < length others = slice_get_within others k other at in
    let a = was.long in let b = are.long in let c = also.long in
    let old = at_below olds k (omega arith) in
    let now = at_below nows k (omega arith) in
    let one = split k old.0 now.0 other old.1 now.1 at in
    subst (λ (h : ℕ). h ≤ share_of other) (sym is)
    (subst (λ (n : ℕ). workers / 2 ≤ n) (sym one.other_new.share_is) (half_right (share_of old.0) workers (shares k old.0 old.1)))

pub two_shares : (workers : ℕ) (seats : List AccSeat) → 2 ≤ workers → HaveShares workers seats → HaveShares 2 seats
two_shares workers seats more shares = λ k seat at. let h = shares k seat at in omega arith

-- ---- what two halves gave

-- what a cut took away comes back at the join
weight_back : (half old now left right after : ℕ) → now + half ≡ old → left ≡ now → right ≡ half → after ≡ left + right → after ≡ old
weight_back half old now left right after cut l r join = omega arith

module _ (accumulated : List Accumulated) (olds nows others lefts rights afters : List AccSeat) (split : AreSplit olds nows others) (join : AreJoined lefts rights afters)
    (was : AreSeats accumulated olds) (are : AreSeats accumulated nows) (also : AreSeats accumulated others) (left_are : AreSeats accumulated lefts) (right_are : AreSeats accumulated rights) where
  pub gave_both : (xs ys : Writes) → HaveGiven accumulated xs nows lefts → HaveGiven accumulated ys others rights → HaveGiven accumulated (xs ++ ys) olds afters
  gave_both xs ys first second = λ k it old after is old_at after_at.
      let below : k < length accumulated = slice_get_within accumulated k it is in
      let a = was.long in let b = are.long in let c = also.long in let d = left_are.long in let e = right_are.long in
      let now = at_below nows k (omega arith) in
      let other = at_below others k (omega arith) in
      let left = at_below lefts k (omega arith) in
      let right = at_below rights k (omega arith) in
      let one = split k old now.0 other.0 old_at now.1 other.1 in
      let l = first k it now.0 left.0 is now.1 left.1 in
      let r = second k it other.0 right.0 is other.1 right.1 in
      let j = join k left.0 right.0 after left.1 right.1 after_at in
      record {
        given = λ c.
            let gx = given_to c (contributions it.layout it.field xs) in
            let gy = given_to c (contributions it.layout it.field ys) in
            let all = given_of old c ++ given_to c (contributions it.layout it.field (xs ++ ys)) in
            come_on (joining it) (given_of after c) (given_of left.0 c ++ given_of right.0 c) all
            (come_same (joining it) (given_of after c) (given_of left.0 c ++ given_of right.0 c) (j.given_is c))
            (come_on (joining it) (given_of left.0 c ++ given_of right.0 c) ((given_of now.0 c ++ gx) ++ (given_of other.0 c ++ gy)) all
            (come_both (joining it) (given_of left.0 c) (given_of right.0 c) (given_of now.0 c ++ gx) (given_of other.0 c ++ gy) (l.given c) (r.given c))
            (come_same (joining it) ((given_of now.0 c ++ gx) ++ (given_of other.0 c ++ gy)) all
            (ap (λ (g : List ℕ). (g ++ gx) ++ (given_of other.0 c ++ gy)) (one.given_stays c)
            ∙ ap (λ (g : List ℕ). (given_of old c ++ gx) ++ (g ++ gy)) (one.other_new.nothing c)
            ∙ append_assoc (given_of old c) gx gy
            ∙ ap (λ (g : List ℕ). given_of old c ++ g) (sym (given_both c it.layout it.field xs ys)))));
        weight_is = weight_back (share_of old / 2) (handed_of old) (handed_of now.0) (handed_of left.0) (handed_of right.0) (handed_of after) one.handed_left l.weight_is (r.weight_is ∙ one.other_new.handed_is) j.handed_is;
      }

-- ---- pieces of a list

take_none : {A : Type 0} (n : ℕ) → take {A = A} n [] ≡ []
take_none zero = refl
take_none (suc n) = refl

pub take_split : (a b : ℕ) (xs : List Coord) → take a xs ++ take b (drop a xs) ≡ take (a + b) xs
take_split zero b xs = ap (λ (n : ℕ). take n xs) (sym (zero_plus b))
  where
    zero_plus : (n : ℕ) → 0 + n ≡ n
    zero_plus n = omega arith
take_split (suc a) b [] = take_none b ∙ sym (take_none (suc a + b))
take_split (suc a) b (x ∷ xs) =
    ap (λ (ys : List Coord). x ∷ ys) (take_split a b xs) ∙ ap (λ (n : ℕ). take n (x ∷ xs)) (next a b)
  where
    next : (m n : ℕ) → suc (m + n) ≡ suc m + n
    next m n = omega arith

pub between-more : (from mid to : ℕ) (points : List Coord) → from ≤ mid → mid ≤ to → between from mid points ++ between mid to points ≡ between from to points
between-more from mid to points first second =
    let there : from + (mid - from) ≡ mid = omega arith in
    let whole : (mid - from) + (to - mid) ≡ to - from = omega arith in
    ap (λ (ps : List Coord). take (mid - from) (drop from points) ++ take (to - mid) ps) (ap (λ (n : ℕ). drop n points) (sym there) ∙ sym (drop-drop (mid - from) from points))
    ∙ take_split (mid - from) (to - mid) (drop from points)
    ∙ ap (λ (n : ℕ). take n (drop from points)) whole

-- ---- hands

pub worked_nothing : (accumulated : List Accumulated) (owned : List Owned) (hand : Hand) → HaveGiven accumulated [] hand.seats.items hand.seats.items → HasWorked accumulated owned [] hand hand
worked_nothing accumulated owned hand gave = record { gave = gave; puts = sym (append-nil (kept_writes hand.puts)) }

-- more iterations
pub worked_more : (accumulated : List Accumulated) (owned : List Owned) (xs ys : List Writes) (old mid now : Hand) → length mid.seats.items ≡ length accumulated → HasWorked accumulated owned xs old mid
    → HasWorked accumulated owned ys mid now → HasWorked accumulated owned (xs ++ ys) old now
worked_more accumulated owned xs ys old mid now long first second = record {
  gave = subst (λ (ws : Writes). HaveGiven accumulated ws old.seats.items now.seats.items) (sym (flat-append (λ (ws : Writes). ws) xs ys))
      (gave_more accumulated (joined_writes xs) (joined_writes ys) old.seats.items mid.seats.items now.seats.items long first.gave second.gave);
  puts = second.puts ∙ ap (λ (ps : Writes). ps ++ flat_map (last_own owned) ys) first.puts
      ∙ append_assoc (kept_writes old.puts) (flat_map (last_own owned) xs) (flat_map (last_own owned) ys)
      ∙ ap (λ (ps : Writes). (kept_writes old.puts) ++ ps) (sym (flat-append (last_own owned) xs ys));
}

pub cells_both : (stores : List StoreWords) (xs ys : List Writes) → AreCells stores (joined_writes xs) → AreCells stores (joined_writes ys) → AreCells stores (joined_writes (xs ++ ys))
cells_both stores xs ys first second =
    subst (λ (ws : Writes). AreCells stores ws) (sym (flat-append (λ (ws : Writes). ws) xs ys))
    (All-append (λ (write : CellWrite). IfSome write.cell (IsCellOf stores write.layout)) (joined_writes xs) (joined_writes ys) first second)

module _ (accumulated : List Accumulated) (owned : List Owned) (old now other left right after : Hand) (split : AreSplit old.seats.items now.seats.items other.seats.items) (join : AreJoined left.seats.items right.seats.items after.seats.items)
    (was : AreSeats accumulated old.seats.items) (are : AreSeats accumulated now.seats.items) (also : AreSeats accumulated other.seats.items) (left_are : AreSeats accumulated left.seats.items) (right_are : AreSeats accumulated right.seats.items)
    (kept : (kept_writes now.puts) ≡ (kept_writes old.puts)) (none : (kept_writes other.puts) ≡ []) (puts : (kept_writes after.puts) ≡ (kept_writes left.puts) ++ (kept_writes right.puts)) where
  pub worked_both : (xs ys : List Writes) → HasWorked accumulated owned xs now left → HasWorked accumulated owned ys other right → HasWorked accumulated owned (xs ++ ys) old after
  worked_both xs ys first second = record {
    gave = subst (λ (ws : Writes). HaveGiven accumulated ws old.seats.items after.seats.items) (sym (flat-append (λ (ws : Writes). ws) xs ys))
        (gave_both accumulated old.seats.items now.seats.items other.seats.items left.seats.items right.seats.items after.seats.items split join was are also left_are right_are (joined_writes xs) (joined_writes ys) first.gave second.gave);
    puts = puts ∙ ap (λ (ps : Writes). ps ++ (kept_writes right.puts)) (first.puts ∙ ap (λ (ps : Writes). ps ++ flat_map (last_own owned) xs) kept)
        ∙ ap (λ (ps : Writes). ((kept_writes old.puts) ++ flat_map (last_own owned) xs) ++ ps) (second.puts ∙ ap (λ (ps : Writes). ps ++ flat_map (last_own owned) ys) none)
        ∙ append_assoc (kept_writes old.puts) (flat_map (last_own owned) xs) (flat_map (last_own owned) ys)
        ∙ ap (λ (ps : Writes). (kept_writes old.puts) ++ ps) (sym (flat-append (last_own owned) xs ys));
  }

-- what both halves did is what the whole does
pub joined_run : (P : FlatState → Type 0) (accumulated : List Accumulated) (owned : List Owned) (stores : List StoreWords) (old now other : Hand) (xs ys zs : FlatState → List Writes) (left right result : Result Hand Memory)
    → ((s : FlatState) → xs s ++ ys s ≡ zs s) → IsDivided old now other → AreSeats accumulated old.seats.items → AreSeats accumulated now.seats.items → AreSeats accumulated other.seats.items
    → IfOk left (λ h. AreSeats accumulated h.seats.items × AreCells stores (kept_writes h.puts) × HasRun stores accumulated owned P xs now h)
    → IfOk right (λ h. AreSeats accumulated h.seats.items × AreCells stores (kept_writes h.puts) × HasRun stores accumulated owned P ys other h)
    → IfOk result (IsOfBoth left right) → IfOk result (HasRun stores accumulated owned P zs old)
joined_run P accumulated owned stores old now other xs ys zs left right (Err e) whole divided was are also first second both = tt
joined_run P accumulated owned stores old now other xs ys zs left right (Ok after) whole divided was are also first second both =
    let l = subst (λ (r : Result Hand Memory). IfOk r (λ h. AreSeats accumulated h.seats.items × AreCells stores (kept_writes h.puts) × HasRun stores accumulated owned P xs now h)) both.left_is first in
    let r = subst (λ (r : Result Hand Memory). IfOk r (λ h. AreSeats accumulated h.seats.items × AreCells stores (kept_writes h.puts) × HasRun stores accumulated owned P ys other h)) both.right_is second in
    record {
      turns = l.2.turns ++ r.2.turns;
      worked = worked_both accumulated owned old now other both.hand both.other after divided.split both.seats_join was are also l.0 r.0 divided.kept divided.none both.puts_are l.2.turns r.2.turns l.2.worked r.2.worked;
      cells = cells_both stores l.2.turns r.2.turns l.2.cells r.2.cells;
      are = λ s p. ap (λ (ts : List Writes). ts ++ r.2.turns) (l.2.are s p) ∙ ap (λ (ts : List Writes). xs s ++ ts) (r.2.are s p) ∙ whole s;
    }

starts_rise : (len workers v w : ℕ) → v ≤ w → slice_start len workers v ≤ slice_start len workers w
starts_rise len workers v w below = omega (arith, mul-le-mul_right (len / workers) below)

-- from a worker on whose number isn't below that of the points the slices are empty
pub starts_past : (len workers v w : ℕ) → len ≤ v → v < workers → v ≤ w → slice_start len workers v ≡ slice_start len workers w
starts_past len workers v w few below more = at_end v few ∙ sym (at_end w (let past : len ≤ w = omega arith in past))
  where
    less : len < workers
    less = omega arith

    at_end : (x : ℕ) → len ≤ x → slice_start len workers x ≡ len
    at_end x past =
        ap (λ (q : ℕ). x * q + min x (len % workers)) (div-eq_of_lt less)
        ∙ ap (λ (r : ℕ). x * 0 + min x r) (mod-eq_of_lt less)
        ∙ (let end : x * 0 + min x len ≡ len = omega arith in end)

-- the points of two ranges of workers are those of both
pub workers_points : {X : Type 0} (f : Coord → X) (points : List Coord) (workers first mid more : ℕ) {last : ℕ} → mid + more ≡ last → first ≤ mid
    → map f (between (slice_start (length points) workers first) (slice_start (length points) workers mid) points)
    ++ map f (between (slice_start (length points) workers mid) (slice_start (length points) workers (mid + more)) points)
    ≡ map f (between (slice_start (length points) workers first) (slice_start (length points) workers last) points)
workers_points f points workers first mid more {last} is below =
    let a = slice_start (length points) workers first in
    let b = slice_start (length points) workers mid in
    let c = slice_start (length points) workers (mid + more) in
    sym (map-append f (between a b points) (between b c points))
    ∙ ap (map f) (between-more a b c points (starts_rise (length points) workers first mid below) (starts_rise (length points) workers mid (mid + more) (omega arith)))
    ∙ ap (λ (n : ℕ). map f (between a (slice_start (length points) workers n) points)) is

pub if_first_two : (accumulated : List Accumulated) (stores : List StoreWords) (C : Hand → Type 0) (r : Result Hand Memory) → IfOk r (λ h. AreSeats accumulated h.seats.items × AreCells stores (kept_writes h.puts) × C h)
    → IfOk r (λ h. AreSeats accumulated h.seats.items × AreCells stores (kept_writes h.puts))
if_first_two accumulated stores C (Ok h) all = (all.0, all.1)
if_first_two accumulated stores C (Err e) all = tt

pub of_both : (left right result : Result Hand Memory) (hand other : Hand) → left ≡ Ok hand → right ≡ Ok other → IfOk result (λ after. AreJoined hand.seats.items other.seats.items after.seats.items)
    → IfOk result (λ after. (kept_writes after.puts) ≡ (kept_writes hand.puts) ++ (kept_writes other.puts)) → IfOk result (IsOfBoth left right)
of_both left right (Err e) hand other l r seats puts = tt
of_both left right (Ok after) hand other l r seats puts = record { hand = hand; other = other; left_is = l; right_is = r; seats_join = seats; puts_are = puts }

-- one worker's iterations are those of so many workers if that is one
pub one_worker : (C : ℕ → Hand → Type 0) (workers : ℕ) (result : Result Hand Memory) → 1 ≤ workers → workers < 2 → IfOk result (C 1) → IfOk result (C workers)
one_worker C workers result some few is = let one : 1 ≡ workers = omega arith in subst (λ (n : ℕ). IfOk result (C n)) one is
