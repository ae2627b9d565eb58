-- What a seat has given to cells and its shares, as it gives, is cut and is merged in all parts.
use Rattle.std.proofs.Common.{◌≡◌, ◌≢◌, ℕ, ◌+◌, ◌/◌, ◌%◌, ◌<◌, Bool, true, false, cond, ◌==◌, List, [], ◌∷◌, ◌++◌, map, length, length-set, set, get_or, append-nil, refl, sym, ap, ◌∙◌, subst, arith}
use Rattle.std.specs.List.{All, concat, filter}
use Rattle.std.proofs.Common.{get_or-set_same, get_or-set_other, eq-eqb, eqb-true, ne_eqb}
use Rattle.std.proofs.lemmas.List.{map-append, map-set, get_or-map, length-map}
use Rattle.std.proofs.lemmas.List.Elements.{filter-append, All-set}
use native.Mathlib.Decide.{ℕ_discrete}
use mathlib.Core.Logic.{dite}
use lib.Seq.{map-set_same}
use Rattle.sg_words.specs.declared.operators.Ty.{Ty}
use Rattle.sg_words.specs.declared.operators.AccOp.{AccOp}
use Rattle.sg_words.specs.declared.race.Worker.{Worker}
use Rattle.sg_words.specs.RaceMachine.{nobody, after_add}
use Rattle.sg_words.specs.RaceInvariant.{handed_share}
use Rattle.sg_words.proofs.Uses.{same_tests}
use Rattle.sg_accum.specs.declared.part.Part.{Part}
use Rattle.sg_accum.specs.declared.part.PartSeat.{PartSeat}
use Rattle.sg_accum.specs.Parts.{part_values, part_tables, seat_tables, seat_workers, worker_at, AreCut, AreBy, HaveEqualShares}
use Rattle.sg_accum.specs.Folding.{given_to, given_in_parts}
use Rattle.sg_accum.proofs.Pieces.{found}

-- ---- given to a cell
pub given-append : (c : ℕ) (xs ys : List (ℕ × ℕ)) → given_to c (xs ++ ys) ≡ given_to c xs ++ given_to c ys
given-append c xs ys =
    let word : ℕ × ℕ → ℕ = λ x. x.1 in
    let mine : ℕ × ℕ → Bool = λ x. x.0 == c in
    ap (map word) (filter-append mine xs ys) ∙ map-append word (filter mine xs) (filter mine ys)

word-of : (cell word : ℕ) (mine : Bool) → map (λ (x : ℕ × ℕ). x.1) (cond mine ((cell, word) ∷ []) []) ≡ cond mine (word ∷ []) []
word-of cell word true = refl
word-of cell word false = refl

-- one contribution, as the part sees it and as the whole does
one-given : (cell word c : ℕ) → c / 65536 ≡ cell / 65536 → given_to (c % 65536) ((cell % 65536, word) ∷ []) ≡ given_to c ((cell, word) ∷ [])
one-given cell word c there =
    let same : (cell % 65536 == c % 65536) ≡ (cell == c) =
    same_tests (cell % 65536 == c % 65536) (cell == c)
    (λ e. (let rest = eqb-true (cell % 65536) (c % 65536) e in eq-eqb cell c (omega arith)))
    (λ e. (let is = eqb-true cell c e in eq-eqb (cell % 65536) (c % 65536) (ap (λ n. n % 65536) is))) in
    word-of (cell % 65536) word (cell % 65536 == c % 65536) ∙ ap (λ (b : Bool). cond b (word ∷ []) []) same ∙ sym (word-of cell word (cell == c))

none-given : (cell word c : ℕ) → c / 65536 ≢ cell / 65536 → given_to c ((cell, word) ∷ []) ≡ []
none-given cell word c other =
    let misses : (cell == c) ≡ false = ne_eqb cell c (λ e. other (ap (λ n. n / 65536) (sym e))) in
    ap (λ (b : Bool). map (λ (x : ℕ × ℕ). x.1) (cond b ((cell, word) ∷ []) [])) misses

-- a worker gives a word in the cell's part
given-step : (ws : List Worker) (cell word : ℕ) (v : Worker) → cell / 65536 < length ws → v ≡ after_add (cell % 65536) word (worker_at ws (cell / 65536)) → (c : ℕ)
    → given_in_parts (set ws (cell / 65536) v) c ≡ given_in_parts ws c ++ given_to c ((cell, word) ∷ [])
given-step ws cell word v below is c =
    dite (ℕ_discrete (c / 65536) (cell / 65536))
    (λ there.
    (let before = worker_at ws (cell / 65536) in
    let now : worker_at (set ws (cell / 65536) v) (c / 65536) ≡ after_add (cell % 65536) word before =
    ap (worker_at (set ws (cell / 65536) v)) there ∙ get_or-set_same ws (cell / 65536) v nobody below ∙ is in
    ap (λ (w : Worker). given_to (c % 65536) w.given) now
    ∙ given-append (c % 65536) before.given ((cell % 65536, word) ∷ [])
    ∙ ap (λ l. given_to (c % 65536) before.given ++ l) (one-given cell word c there)
    ∙ ap (λ n. given_to (c % 65536) (worker_at ws n).given ++ given_to c ((cell, word) ∷ [])) (sym there)))
    (λ other.
    ap (λ (w : Worker). given_to (c % 65536) w.given) (get_or-set_other ws (cell / 65536) (c / 65536) v nobody other)
    ∙ sym (append-nil (given_in_parts ws c))
    ∙ ap (λ l. given_in_parts ws c ++ l) (sym (none-given cell word c other)))

-- ---- the same share in all parts
abbrev pub HaveShares : ℕ → ℕ → List Worker → Type 0
HaveShares share back ws = All (λ (v : Worker). (v.share ≡ share) × (v.back ≡ back)) ws

pub alike-from : (share back : ℕ) (ws : List Worker) → HaveShares share back ws → HaveEqualShares ws
alike-from share back ws have k d below =
    let it = have k d below in
    let first = have 0 nobody (omega arith) in
    (it.0 ∙ sym first.0, it.1 ∙ sym first.1)

pub first-share : (share back : ℕ) (ws : List Worker) → 0 < length ws → HaveShares share back ws → ((worker_at ws 0).share ≡ share) × (handed_share (worker_at ws 0) ≡ share + back)
first-share share back ws some have =
    let first = have 0 nobody some in
    let a = first.0 in
    let b = first.1 in
    (first.0, omega (arith, a, b))

-- ---- a seat's step in one part
-- the seat at a place, as its worker
pub worker-here : (seats : List PartSeat) (k : ℕ) (s : PartSeat) → k < length seats → s ≡ get_or seats k s → worker_at (seat_workers seats) k ≡ s.seat.me.0
worker-here seats k s below is =
    get_or-map (λ (s : PartSeat). s.seat.me.0) seats k s nobody below ∙ ap (λ (s : PartSeat). s.seat.me.0) (sym is)

gives-in-part : (seats : List PartSeat) (cell word : ℕ) (old now : PartSeat) → cell / 65536 < length seats → old ≡ get_or seats (cell / 65536) old
    → now.seat.me.0 ≡ after_add (cell % 65536) word old.seat.me.0 → (c : ℕ)
    → given_in_parts (seat_workers (set seats (cell / 65536) now)) c ≡ given_in_parts (seat_workers seats) c ++ given_to c ((cell, word) ∷ [])
gives-in-part seats cell word old now below is gave c =
    let ws = seat_workers seats in
    let within : cell / 65536 < length ws = subst (λ n. cell / 65536 < n) (sym (length-map seats (λ (s : PartSeat). s.seat.me.0))) below in
    ap (λ (l : List Worker). given_in_parts l c) (map-set (λ (s : PartSeat). s.seat.me.0) seats (cell / 65536) now)
    ∙ given-step ws cell word now.seat.me.0 within (gave ∙ ap (after_add (cell % 65536) word) (sym (worker-here seats (cell / 65536) old below is))) c

-- what a seat is after a contribution to one part
pub record Gives (cell word : ℕ) (seats now : List PartSeat) : Type 0 where
  pub some : 0 < length now
  pub long : length (seat_workers now) ≡ length (seat_workers seats)
  pub alike : HaveEqualShares (seat_workers now)
  pub given : (c : ℕ) → given_in_parts (seat_workers now) c ≡ given_in_parts (seat_workers seats) c ++ given_to c ((cell, word) ∷ [])
  pub share : (worker_at (seat_workers now) 0).share ≡ (worker_at (seat_workers seats) 0).share
  pub handed : handed_share (worker_at (seat_workers now) 0) ≡ handed_share (worker_at (seat_workers seats) 0)

shares-stay : (seats : List PartSeat) (k : ℕ) (cell word : ℕ) (old now : PartSeat) → k < length seats → old ≡ get_or seats k old → now.seat.me.0 ≡ after_add cell word old.seat.me.0
    → HaveEqualShares (seat_workers seats) → HaveShares (worker_at (seat_workers seats) 0).share (worker_at (seat_workers seats) 0).back (seat_workers (set seats k now))
shares-stay seats k cell word old now below is gave alike =
    let ws = seat_workers seats in
    let P : Worker → Type 0 = λ v. (v.share ≡ (worker_at ws 0).share) × (v.back ≡ (worker_at ws 0).back) in
    let within : k < length ws = subst (λ n. k < n) (sym (length-map seats (λ (s : PartSeat). s.seat.me.0))) below in
    let before : P old.seat.me.0 = subst P (worker-here seats k old below is) (alike k nobody within) in
    subst (All P) (sym (map-set (λ (s : PartSeat). s.seat.me.0) seats k now)) (All-set P ws k now.seat.me.0 (subst P (sym gave) before) alike)

pub gives : (seats : List PartSeat) (cell word : ℕ) (old now : PartSeat) → cell / 65536 < length seats → old ≡ get_or seats (cell / 65536) old
    → now.seat.me.0 ≡ after_add (cell % 65536) word old.seat.me.0 → HaveEqualShares (seat_workers seats) → Gives cell word seats (set seats (cell / 65536) now)
gives seats cell word old now below is gave alike =
    let k = cell / 65536 in
    let first = worker_at (seat_workers seats) 0 in
    let after = set seats k now in
    let some : 0 < length after = omega (arith, length-set seats k now, below) in
    let some' : 0 < length (seat_workers after) = subst (λ n. 0 < n) (sym (length-map after (λ (s : PartSeat). s.seat.me.0))) some in
    let have = shares-stay seats k (cell % 65536) word old now below is gave alike in
    let shares = first-share first.share first.back (seat_workers after) some' have in
    record {
      some = some;
      long = length-map after (λ (s : PartSeat). s.seat.me.0) ∙ length-set seats k now ∙ sym (length-map seats (λ (s : PartSeat). s.seat.me.0));
      alike = alike-from first.share first.back (seat_workers after) have;
      given = gives-in-part seats cell word old now below is gave;
      share = shares.0;
      handed = shares.1;
    }

-- ---- where a cell is
-- a cell has a place in a part of the pass, in which the seat has its seat
pub record Placed (op : AccOp) (cell : ℕ) (parts : List Part) (seats : List PartSeat) : Type 0 where
  pub part_within : cell / 65536 < length parts
  pub seat_within : cell / 65536 < length seats
  pub inside : (d : Part) → cell % 65536 < length (get_or parts (cell / 65536) d).start.values
  pub operator : (d : Part) → (get_or parts (cell / 65536) d).start.op ≡ op
  pub own : (d : Part) (s : PartSeat) → (get_or seats (cell / 65536) s).seat.table_id ≡ (get_or parts (cell / 65536) d).table.shared.table_id

pub same_many : (parts : List Part) (seats : List PartSeat) → seat_tables seats ≡ part_tables parts → length seats ≡ length parts
same_many parts seats own =
    sym (length-map seats (λ (s : PartSeat). s.seat.table_id)) ∙ ap length own ∙ length-map parts (λ (p : Part). p.table.shared.table_id)

pub own-at : (parts : List Part) (seats : List PartSeat) (k : ℕ) → seat_tables seats ≡ part_tables parts → k < length parts → (d : Part) (s : PartSeat)
    → (get_or seats k s).seat.table_id ≡ (get_or parts k d).table.shared.table_id
own-at parts seats k own below d s =
    let id = d.table.shared.table_id in
    let within : k < length seats = subst (λ n. k < n) (sym (same_many parts seats own)) below in
    sym (get_or-map (λ (s : PartSeat). s.seat.table_id) seats k s id within) ∙ ap (λ l. get_or l k id) own ∙ get_or-map (λ (p : Part). p.table.shared.table_id) parts k d id below

pub placed : (op : AccOp) (t : Ty) (cell : ℕ) (parts : List Part) (seats : List PartSeat) → AreCut (part_values parts) → AreBy op t parts → seat_tables seats ≡ part_tables parts
    → cell < length (concat (part_values parts)) → Placed op cell parts seats
placed op t cell parts seats cut by own below =
    let f = found (part_values parts) cell cut below in
    let values : Part → List ℕ = λ p. p.start.values in
    let within : cell / 65536 < length parts = subst (λ n. cell / 65536 < n) (length-map parts values) f.within in
    record {
      part_within = within;
      seat_within = subst (λ n. cell / 65536 < n) (sym (same_many parts seats own)) within;
      inside = λ d. subst (λ (l : List ℕ). cell % 65536 < length l) (get_or-map values parts (cell / 65536) d [] within) f.inside;
      operator = λ d. (by (cell / 65536) d within).0;
      own = own-at parts seats (cell / 65536) own within;
    }

pub own-stays : (parts : List Part) (seats : List PartSeat) (k : ℕ) (old now : PartSeat) → old ≡ get_or seats k old → now.seat.table_id ≡ old.seat.table_id → seat_tables seats ≡ part_tables parts
    → seat_tables (set seats k now) ≡ part_tables parts
own-stays parts seats k old now is same own = map-set_same (λ (s : PartSeat). s.seat.table_id) seats k now old (same ∙ ap (λ (s : PartSeat). s.seat.table_id) is) ∙ own
