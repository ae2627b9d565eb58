-- Each step of a seat is one event.
use Rattle.std.proofs.Common.{ℕ, inl, List, refl}
use Rattle.sg_words.specs.declared.race.Worker.{Worker}
use Rattle.sg_dynamic.specs.LengthLaws.{StartIsEvent, RaiseIsEvent, SplitIsEvent, JoinIsEvent}

pub start_is_event : (start : List ℕ) → StartIsEvent start
start_is_event start = (refl, (refl, refl))

pub raise_is_event : (start words : List ℕ) (views : List Worker) (id q i : ℕ) → RaiseIsEvent start words views id q i
raise_is_event start words views id q i live inside = ((live, inside, inl refl), refl)

pub split_is_event : (start words : List ℕ) (views : List Worker) (id : ℕ) → SplitIsEvent start words views id
split_is_event start words views id share = (share, refl)

pub join_is_event : (start words : List ℕ) (views : List Worker) (id other : ℕ) → JoinIsEvent start words views id other
join_is_event start words views id other live live' ne = ((live, live', ne), refl)
