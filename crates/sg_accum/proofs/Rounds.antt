-- A round over the seats in all parts: the first of them are done, or the last.
use Rattle.std.proofs.Common.{◌≡◌, ℕ, zero, suc, ◌+◌, ◌<◌, ◌≤◌, List, [], ◌∷◌, ◌++◌, length, set, get_or, get_or-take, take, drop, take_all, take-take, append-nil, refl, sym, ap, ◌∙◌, subst, arith}
use Rattle.std.proofs.lemmas.List.{map-set, drop_all, length-map, length_push, get_or_push, take-append-le}
use Rattle.sg_words.specs.declared.race.Worker.{Worker}
use Rattle.sg_words.specs.RaceMachine.{nobody, after_join}
use Rattle.sg_accum.specs.declared.part.PartSeat.{PartSeat}
use Rattle.sg_accum.specs.Parts.{seat_workers, worker_at}
use Rattle.sg_accum.specs.steps.Teams.{joined_each}
use Rattle.sg_accum.proofs.Ledgers.{worker-here}

-- ---- upward: before place i the list is the second already
module _ {X : Type 0} where
  up-get : (old now : List X) (i : ℕ) (d : X) → length now ≡ length old → i < length old → get_or (take i now ++ drop i old) i d ≡ get_or old i d
  up-get [] now i d same below = absurd (omega arith)
  up-get (x ∷ xs) [] i d same below = absurd (omega arith)
  up-get (x ∷ xs) (y ∷ ys) zero d same below = refl
  up-get (x ∷ xs) (y ∷ ys) (suc i) d same below = up-get xs ys i d (omega arith) (omega arith)

  up-set' : (old now : List X) (i : ℕ) (d : X) → length now ≡ length old → i < length old → set (take i now ++ drop i old) i (get_or now i d) ≡ take (suc i) now ++ drop (suc i) old
  up-set' [] now i d same below = absurd (omega arith)
  up-set' (x ∷ xs) [] i d same below = absurd (omega arith)
  up-set' (x ∷ xs) (y ∷ ys) zero d same below = refl
  up-set' (x ∷ xs) (y ∷ ys) (suc i) d same below = ap (λ l. y ∷ l) (up-set' xs ys i d (omega arith) (omega arith))

  up-set : (old now : List X) (i : ℕ) (d : X) → length now ≡ length old → i < length old → set (take i now ++ drop i old) i (get_or now i d) ≡ take (i + 1) now ++ drop (i + 1) old
  up-set old now i d same below =
      let next : suc i ≡ i + 1 = omega arith in
      subst (λ n. set (take i now ++ drop i old) i (get_or now i d) ≡ take n now ++ drop n old) next (up-set' old now i d same below)

  -- ---- downward: from place i on the list is the second already
  down-get : (old now : List X) (i : ℕ) (d : X) → length now ≡ length old → i < length old → get_or (take (suc i) old ++ drop (suc i) now) i d ≡ get_or old i d
  down-get [] now i d same below = absurd (omega arith)
  down-get (x ∷ xs) [] i d same below = absurd (omega arith)
  down-get (x ∷ xs) (y ∷ ys) zero d same below = refl
  down-get (x ∷ xs) (y ∷ ys) (suc i) d same below = down-get xs ys i d (omega arith) (omega arith)

  down-set : (old now : List X) (i : ℕ) (d : X) → length now ≡ length old → i < length old → set (take (suc i) old ++ drop (suc i) now) i (get_or now i d) ≡ take i old ++ drop i now
  down-set [] now i d same below = absurd (omega arith)
  down-set (x ∷ xs) [] i d same below = absurd (omega arith)
  down-set (x ∷ xs) (y ∷ ys) zero d same below = refl
  down-set (x ∷ xs) (y ∷ ys) (suc i) d same below = ap (λ l. x ∷ l) (down-set xs ys i d (omega arith) (omega arith))

-- ---- a turn of a round
pub many-workers : (seats : List PartSeat) → length (seat_workers seats) ≡ length seats
many-workers seats = length-map seats (λ (s : PartSeat). s.seat.me.0)

pub reads-up : (seats : List PartSeat) (old now : List Worker) (k : ℕ) (s : PartSeat) → seat_workers seats ≡ take k now ++ drop k old → length now ≡ length old → k < length old → k < length seats
    → s ≡ get_or seats k s → s.seat.me.0 ≡ worker_at old k
reads-up seats old now k s done same below within is = sym (worker-here seats k s within is) ∙ ap (λ l. worker_at l k) done ∙ up-get old now k nobody same below

pub writes-up : (seats : List PartSeat) (old now : List Worker) (k : ℕ) (s : PartSeat) → seat_workers seats ≡ take k now ++ drop k old → length now ≡ length old → k < length old
    → s.seat.me.0 ≡ worker_at now k → seat_workers (set seats k s) ≡ take (k + 1) now ++ drop (k + 1) old
writes-up seats old now k s done same below is =
    map-set (λ (s : PartSeat). s.seat.me.0) seats k s ∙ ap (λ l. set l k s.seat.me.0) done ∙ ap (set (take k now ++ drop k old) k) is ∙ up-set old now k nobody same below

pub reads-down : (seats : List PartSeat) (old now : List Worker) (k : ℕ) (s : PartSeat) → seat_workers seats ≡ take (suc k) old ++ drop (suc k) now → length now ≡ length old → k < length old → k < length seats
    → s ≡ get_or seats k s → s.seat.me.0 ≡ worker_at old k
reads-down seats old now k s done same below within is = sym (worker-here seats k s within is) ∙ ap (λ l. worker_at l k) done ∙ down-get old now k nobody same below

pub writes-down : (seats : List PartSeat) (old now : List Worker) (k : ℕ) (s : PartSeat) → seat_workers seats ≡ take (suc k) old ++ drop (suc k) now → length now ≡ length old → k < length old
    → s.seat.me.0 ≡ worker_at now k → seat_workers (set seats k s) ≡ take k old ++ drop k now
writes-down seats old now k s done same below is =
    map-set (λ (s : PartSeat). s.seat.me.0) seats k s ∙ ap (λ l. set l k s.seat.me.0) done ∙ ap (set (take (suc k) old ++ drop (suc k) now) k) is ∙ down-set old now k nobody same below

-- ---- joins
pub many-joined : (vs ws : List Worker) → length ws ≡ length vs → length (joined_each vs ws) ≡ length vs
many-joined [] ws same = refl
many-joined (v ∷ vs) [] same = absurd (omega arith)
many-joined (v ∷ vs) (w ∷ ws) same = ap suc (many-joined vs ws (omega arith))

pub joined-at : (vs ws : List Worker) (k : ℕ) → length ws ≡ length vs → k < length vs → worker_at (joined_each vs ws) k ≡ after_join (worker_at vs k) (worker_at ws k)
joined-at [] ws k same below = absurd (omega arith)
joined-at (v ∷ vs) [] k same below = absurd (omega arith)
joined-at (v ∷ vs) (w ∷ ws) zero same below = refl
joined-at (v ∷ vs) (w ∷ ws) (suc k) same below = joined-at vs ws k (omega arith) (omega arith)

pub none-joined : (vs ws : List Worker) (n : ℕ) → length ws ≡ length vs → n ≡ length vs → vs ≡ take n vs ++ drop n (joined_each vs ws)
none-joined vs ws n same all =
    let past : length (joined_each vs ws) ≤ n = omega (arith, many-joined vs ws same, all) in
    sym (ap (λ l. take n vs ++ l) (drop_all n (joined_each vs ws) past) ∙ append-nil (take n vs) ∙ take_all n vs (omega arith))

-- ---- the last of a list is taken
pub record Popped {X : Type 0} (whole left : List X) (last : X) (many : ℕ) : Type 0 where
  pub one_less : many ≡ suc (length left)
  pub within : length left < length whole
  pub rest : left ≡ take (length left) whole
  pub is : last ≡ get_or whole (length left) last

pub popped : {X : Type 0} (whole before left : List X) (last : X) → before ≡ left ++ last ∷ [] → before ≡ take (length before) whole → length before ≤ length whole → Popped whole left last (length before)
popped whole before left last is front few =
    let n = length left in
    let more : length before ≡ suc n = omega (arith, ap length is, length_push left last) in
    let under : n ≤ length before = omega arith in
    let below : n < length before = omega arith in
    record {
      one_less = more;
      within = omega arith;
      rest = sym (take_all n left (omega arith)) ∙ sym (take-append-le n left (last ∷ []) (omega arith)) ∙ ap (take n) (sym is ∙ front) ∙ take-take n (length before) whole under;
      is = sym (get_or_push left last last n refl) ∙ ap (λ l. get_or l n last) (sym is ∙ front) ∙ get_or-take (length before) whole n last below;
    }
