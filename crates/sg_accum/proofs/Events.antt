-- Each step of a seat is one event.
use Rattle.std.proofs.Common.{◌≡◌, ℕ, ◌<◌, List, [], map, length, set, refl, sym, ap, ◌∙◌, subst}
use Rattle.std.specs.Prelude.{slice_index}
use Rattle.std.proofs.lemmas.List.{map-set, length-map, get_or-map}
use Rattle.sg_words.specs.declared.race.Worker.{Worker}
use Rattle.sg_words.specs.Words.{folded}
use Rattle.sg_words.specs.RaceMachine.{Race, after_add}
use Rattle.sg_accum.specs.declared.begin.Start.{Start}
use Rattle.sg_accum.specs.AccRace.{cell_of}
use Rattle.sg_accum.specs.AccLaws.{GivesWord, StartIsEvent, AddIsEvent, LeastIsEvent, MostIsEvent, SetBitsIsEvent, KeepBitsIsEvent, FlipBitsIsEvent, SplitIsEvent, JoinIsEvent, at}
use Rattle.sg_accum.proofs.Words.{Follows, follows-add, follows-min, follows-max, follows-or, follows-and, follows-xor}

-- a state of the cells
race : List ℕ → List Worker → Race
race cells views = record { slots = []; keys = []; masks = []; lengths = []; cells = cells; counts = []; workers = views }

pub start_is_event : (start : Start) (words : List ℕ) → StartIsEvent start words
unfolding race
start_is_event start words told = (ap (λ cells. race cells []) told, (refl, refl))

-- a word that follows a contribution is a contribution to its cell
gives : (start : Start) (words : List ℕ) (views : List Worker) (id c x n : ℕ) → Follows start.op start.ty (slice_index words c) x n → GivesWord start words views id c x n
unfolding race
gives start words views id c x n follows live inside low =
    let f = cell_of start.op start.ty in
    let within : c < length (map f words) = subst (λ n. c < n) (sym (length-map words f)) inside in
    let here : slice_index (map f words) c ≡ f (slice_index words c) = get_or-map f words c 0 0 inside in
    let becomes : folded start.op start.ty (slice_index (map f words) c) x ≡ f n = ap (λ m. folded start.op start.ty m x) here ∙ sym follows.0 in
    let cells : set (map f words) c (folded start.op start.ty (slice_index (map f words) c) x) ≡ map f (set words c n) = ap (λ m. set (map f words) c m) becomes ∙ sym (map-set f words c n) in
    ((live, within), ap (λ cells. race cells (set views id (after_add c x (at start views id)))) cells)

pub add_is_event : (start : Start) (words : List ℕ) (views : List Worker) (id c x : ℕ) → AddIsEvent start words views id c x
add_is_event start words views id c x adds live inside low =
    gives start words views id c x _ (follows-add start.op start.ty (slice_index words c) x adds) live inside low

pub least_is_event : (start : Start) (words : List ℕ) (views : List Worker) (id c x : ℕ) → LeastIsEvent start words views id c x
least_is_event start words views id c x lowers small live inside low =
    gives start words views id c x _ (follows-min start.op start.ty (slice_index words c) x _ lowers small refl (low c)) live inside low

pub most_is_event : (start : Start) (words : List ℕ) (views : List Worker) (id c x : ℕ) → MostIsEvent start words views id c x
most_is_event start words views id c x raises small live inside low =
    gives start words views id c x _ (follows-max start.op start.ty (slice_index words c) x _ raises small refl (low c)) live inside low

pub set_bits_is_event : (start : Start) (words : List ℕ) (views : List Worker) (id c x : ℕ) → SetBitsIsEvent start words views id c x
set_bits_is_event start words views id c x sets small live inside low =
    gives start words views id c x _ (follows-or start.op start.ty (slice_index words c) x sets small (low c)) live inside low

pub keep_bits_is_event : (start : Start) (words : List ℕ) (views : List Worker) (id c x : ℕ) → KeepBitsIsEvent start words views id c x
keep_bits_is_event start words views id c x keeps small live inside low =
    gives start words views id c x _ (follows-and start.op start.ty (slice_index words c) x keeps (low c)) live inside low

pub flip_bits_is_event : (start : Start) (words : List ℕ) (views : List Worker) (id c x : ℕ) → FlipBitsIsEvent start words views id c x
flip_bits_is_event start words views id c x flips small live inside low =
    gives start words views id c x _ (follows-xor start.op start.ty (slice_index words c) x flips small (low c)) live inside low

pub split_is_event : (start : Start) (words : List ℕ) (views : List Worker) (id : ℕ) → SplitIsEvent start words views id
split_is_event start words views id share = (share, refl)

pub join_is_event : (start : Start) (words : List ℕ) (views : List Worker) (id other : ℕ) → JoinIsEvent start words views id other
join_is_event start words views id other live live' ne = ((live, live', ne), refl)
