-- The seats of a pass as they are made, cut and merged: what they have given and which shares they have.
use Rattle.std.proofs.Common.{◌≡◌, ℕ, zero, suc, ◌+◌, ◌-◌, ◌/◌, ◌%◌, ◌<◌, List, [], ◌∷◌, ◌++◌, map, length, refl, sym, ap, ◌∙◌, subst, arith}
use Rattle.std.specs.List.{All}
use Rattle.std.proofs.lemmas.List.{length-map}
use Rattle.std.proofs.lemmas.List.Elements.{All-nil, All-cons, All-head, All-tail, All-map}
use Rattle.sg_words.specs.declared.race.Worker.{Worker}
use Rattle.sg_words.specs.RaceMachine.{after_split, other_half, after_join}
use Rattle.sg_words.specs.RaceInvariant.{handed_share}
use Rattle.sg_accum.specs.declared.part.PartSeat.{PartSeat}
use Rattle.sg_accum.specs.declared.seat.AccPass.{AccPass}
use Rattle.sg_accum.specs.declared.seat.AccSeat.{AccSeat}
use Rattle.sg_accum.specs.AccRace.{first_worker}
use Rattle.sg_accum.specs.Parts.{seat_workers, worker_at, HaveEqualShares}
use Rattle.sg_accum.specs.Folding.{given_to, given_in_parts, share_of, handed_of, IsSeatOf, IsCut, IsMerged}
use Rattle.sg_accum.specs.steps.Teams.{joined_each}
use Rattle.sg_accum.proofs.Ledgers.{HaveShares, alike-from, first-share, given-append, same_many}
use Rattle.sg_accum.proofs.Rounds.{many-workers, many-joined}

-- a list of workers, one for each part, with the same shares
pub record Team (share back : ℕ) (ws : List Worker) : Type 0 where
  pub some : 0 < length ws
  pub alike : HaveEqualShares ws
  pub share_is : (worker_at ws 0).share ≡ share
  pub handed_is : handed_share (worker_at ws 0) ≡ share + back

team : (share back : ℕ) (ws : List Worker) → 0 < length ws → HaveShares share back ws → Team share back ws
team share back ws some have =
    let first = first-share share back ws some have in
    record { some = some; alike = alike-from share back ws have; share_is = first.0; handed_is = first.1 }

-- ---- first seats
pub first-team : (ws : List Worker) → 0 < length ws → All (λ (v : Worker). v ≡ first_worker) ws → Team 16 0 ws
first-team ws some first = team 16 0 ws some (λ k d below. (ap (λ (v : Worker). v.share) (first k d below), ap (λ (v : Worker). v.back) (first k d below)))

nothing-at : (ws : List Worker) (k : ℕ) → All (λ (v : Worker). v ≡ first_worker) ws → (worker_at ws k).given ≡ []
nothing-at [] k first = refl
nothing-at (w ∷ ws) zero first = ap (λ (v : Worker). v.given) (All-head (λ (v : Worker). v ≡ first_worker) w ws first)
nothing-at (w ∷ ws) (suc k) first = nothing-at ws k (All-tail (λ (v : Worker). v ≡ first_worker) w ws first)

pub first-nothing : (ws : List Worker) → All (λ (v : Worker). v ≡ first_worker) ws → (c : ℕ) → given_in_parts ws c ≡ []
first-nothing ws first c = ap (given_to (c % 65536)) (nothing-at ws (c / 65536) first)

-- ---- a cut
pub left-team : (ws : List Worker) → 0 < length ws → HaveEqualShares ws → Team ((worker_at ws 0).share - (worker_at ws 0).share / 2) (worker_at ws 0).back (map after_split ws)
left-team ws some alike =
    let s = (worker_at ws 0).share in
    let b = (worker_at ws 0).back in
    let some' : 0 < length (map after_split ws) = omega (arith, length-map ws after_split, some) in
    team (s - s / 2) b (map after_split ws) some'
    (All-map (λ (v : Worker). (v.share ≡ s - s / 2) × (v.back ≡ b)) after_split ws (λ k d below. (ap (λ n. n - n / 2) (alike k d below).0, (alike k d below).1)))

pub right-team : (ws : List Worker) → 0 < length ws → HaveEqualShares ws → Team ((worker_at ws 0).share / 2) 0 (map other_half ws)
right-team ws some alike =
    let s = (worker_at ws 0).share in
    let some' : 0 < length (map other_half ws) = omega (arith, length-map ws other_half, some) in
    team (s / 2) 0 (map other_half ws) some' (All-map (λ (v : Worker). (v.share ≡ s / 2) × (v.back ≡ 0)) other_half ws (λ k d below. (ap (λ n. n / 2) (alike k d below).0, refl)))

left-at : (ws : List Worker) (k : ℕ) → (worker_at (map after_split ws) k).given ≡ (worker_at ws k).given
left-at [] k = refl
left-at (w ∷ ws) zero = refl
left-at (w ∷ ws) (suc k) = left-at ws k

pub left-given : (ws : List Worker) (c : ℕ) → given_in_parts (map after_split ws) c ≡ given_in_parts ws c
left-given ws c = ap (given_to (c % 65536)) (left-at ws (c / 65536))

right-at : (ws : List Worker) (k : ℕ) → (worker_at (map other_half ws) k).given ≡ []
right-at [] k = refl
right-at (w ∷ ws) zero = refl
right-at (w ∷ ws) (suc k) = right-at ws k

pub right-given : (ws : List Worker) (c : ℕ) → given_in_parts (map other_half ws) c ≡ []
right-given ws c = ap (given_to (c % 65536)) (right-at ws (c / 65536))

-- ---- a merge
joined-shares : (s b s' b' : ℕ) (vs ws : List Worker) → HaveShares s b vs → HaveShares s' b' ws → HaveShares s (b + (s' + b')) (joined_each vs ws)
joined-shares s b s' b' [] ws mine others = All-nil (λ (v : Worker). (v.share ≡ s) × (v.back ≡ b + (s' + b')))
joined-shares s b s' b' (v ∷ vs) [] mine others = All-nil (λ (v : Worker). (v.share ≡ s) × (v.back ≡ b + (s' + b')))
joined-shares s b s' b' (v ∷ vs) (w ∷ ws) mine others =
    let P : Worker → Type 0 = λ v. (v.share ≡ s) × (v.back ≡ b) in
    let Q : Worker → Type 0 = λ v. (v.share ≡ s') × (v.back ≡ b') in
    let first = All-head P v vs mine in
    let other = All-head Q w ws others in
    All-cons (λ (v : Worker). (v.share ≡ s) × (v.back ≡ b + (s' + b'))) (after_join v w) (joined_each vs ws) (first.0, omega (arith, first.1, other.0, other.1))
    (joined-shares s b s' b' vs ws (All-tail P v vs mine) (All-tail Q w ws others))

pub joined-team : (vs ws : List Worker) → 0 < length vs → length ws ≡ length vs → HaveEqualShares vs → HaveEqualShares ws
    → Team (worker_at vs 0).share ((worker_at vs 0).back + ((worker_at ws 0).share + (worker_at ws 0).back)) (joined_each vs ws)
joined-team vs ws some same mine others =
    let v = worker_at vs 0 in
    let w = worker_at ws 0 in
    let some' : 0 < length (joined_each vs ws) = omega (arith, many-joined vs ws same, some) in
    team v.share (v.back + (w.share + w.back)) (joined_each vs ws) some' (joined-shares v.share v.back w.share w.back vs ws mine others)

joined-given-at : (vs ws : List Worker) (k : ℕ) → length ws ≡ length vs → (worker_at (joined_each vs ws) k).given ≡ (worker_at vs k).given ++ (worker_at ws k).given
joined-given-at [] [] k same = refl
joined-given-at [] (w ∷ ws) k same = absurd (omega arith)
joined-given-at (v ∷ vs) [] k same = absurd (omega arith)
joined-given-at (v ∷ vs) (w ∷ ws) zero same = refl
joined-given-at (v ∷ vs) (w ∷ ws) (suc k) same = joined-given-at vs ws k (omega arith)

pub joined-given : (vs ws : List Worker) → length ws ≡ length vs → (c : ℕ) → given_in_parts (joined_each vs ws) c ≡ given_in_parts vs c ++ given_in_parts ws c
joined-given vs ws same c =
    ap (given_to (c % 65536)) (joined-given-at vs ws (c / 65536) same) ∙ given-append (c % 65536) (worker_at vs (c / 65536)).given (worker_at ws (c / 65536)).given

-- ---- seats of a pass
-- seats in the parts, with the same shares
pub record Seated (share back : ℕ) (seats : List PartSeat) : Type 0 where
  pub some : 0 < length seats
  pub team : Team share back (seat_workers seats)

-- seats of which the workers are known
seated : (share back : ℕ) (ws : List Worker) (seats : List PartSeat) → seat_workers seats ≡ ws → Team share back ws → Seated share back seats
seated share back ws seats is known =
    let moved : Team share back (seat_workers seats) = subst (Team share back) (sym is) known in
    record { some = subst (λ n. 0 < n) (many-workers seats) moved.some; team = moved }

-- a seat has a worker in some part
some-worker : (seat : AccSeat) → 0 < length (seat_workers seat.seats.items)
some-worker seat = subst (λ n. 0 < n) (sym (many-workers seat.seats.items)) seat.some

-- the half that a seat keeps if it is cut
pub left-seats : (seat : AccSeat) (left : List PartSeat) → seat_workers left ≡ map after_split (seat_workers seat.seats.items)
    → Seated (share_of seat - share_of seat / 2) (worker_at (seat_workers seat.seats.items) 0).back left
left-seats seat left is =
    let ws = seat_workers seat.seats.items in
    seated (share_of seat - share_of seat / 2) (worker_at ws 0).back (map after_split ws) left is (left-team ws (some-worker seat) seat.alike)

-- the half that a new seat takes there
pub right-seats : (seat : AccSeat) (right : List PartSeat) → seat_workers right ≡ map other_half (seat_workers seat.seats.items) → Seated (share_of seat / 2) 0 right
right-seats seat right is =
    let ws = seat_workers seat.seats.items in
    seated (share_of seat / 2) 0 (map other_half ws) right is (right-team ws (some-worker seat) seat.alike)

-- a seat was cut in two
pub cut-in-two : (seat now other : AccSeat) → seat_workers now.seats.items ≡ map after_split (seat_workers seat.seats.items)
    → seat_workers other.seats.items ≡ map other_half (seat_workers seat.seats.items) → IsCut seat now other
cut-in-two seat now other left right =
    let ws = seat_workers seat.seats.items in
    let kept = (left-seats seat now.seats.items left).team in
    let taken = (right-seats seat other.seats.items right).team in
    let all : handed_of other ≡ share_of seat / 2 = omega (arith, taken.handed_is) in
    record {
      given_stays = λ n. ap (λ (l : List Worker). given_in_parts l n) left ∙ left-given ws n;
      share_left = kept.share_is;
      handed_left = omega (arith, kept.handed_is);
      other_new = record { nothing = λ n. ap (λ (l : List Worker). given_in_parts l n) right ∙ right-given ws n; share_is = taken.share_is; handed_is = all };
    }

-- two seats of a pass have as many workers
pub as-many-workers : (pass : AccPass) (seat other : AccSeat) → IsSeatOf pass seat → IsSeatOf pass other → length (seat_workers other.seats.items) ≡ length (seat_workers seat.seats.items)
as-many-workers pass seat other own own' =
    let mine = seat.seats.items in
    let theirs = other.seats.items in
    many-workers theirs ∙ same_many pass.parts.items theirs own' ∙ sym (same_many pass.parts.items mine own) ∙ sym (many-workers mine)

-- a seat into which another was joined
pub joined-seats : (pass : AccPass) (seat other : AccSeat) (now : List PartSeat) → IsSeatOf pass seat → IsSeatOf pass other
    → seat_workers now ≡ joined_each (seat_workers seat.seats.items) (seat_workers other.seats.items)
    → Seated (share_of seat) ((worker_at (seat_workers seat.seats.items) 0).back + (share_of other + (worker_at (seat_workers other.seats.items) 0).back)) now
joined-seats pass seat other now own own' is =
    let vs = seat_workers seat.seats.items in
    let ws = seat_workers other.seats.items in
    seated (share_of seat) ((worker_at vs 0).back + (share_of other + (worker_at ws 0).back)) (joined_each vs ws) now is
    (joined-team vs ws (some-worker seat) (as-many-workers pass seat other own own') seat.alike other.alike)

-- two seats were merged
pub merged : (pass : AccPass) (seat other now : AccSeat) → IsSeatOf pass seat → IsSeatOf pass other
    → seat_workers now.seats.items ≡ joined_each (seat_workers seat.seats.items) (seat_workers other.seats.items) → IsMerged seat other now
merged pass seat other now own own' is =
    let both = (joined-seats pass seat other now.seats.items own own' is).team in
    record {
      given_is = λ n. ap (λ (l : List Worker). given_in_parts l n) is ∙ joined-given (seat_workers seat.seats.items) (seat_workers other.seats.items) (as-many-workers pass seat other own own') n;
      share_stays = both.share_is;
      handed_is = omega (arith, both.handed_is);
    }
