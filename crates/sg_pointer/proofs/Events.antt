-- Each step of a seat is one event.
use Rattle.std.proofs.Common.{◌≡◌, ℕ, ◌+◌, cond, ◌==◌, List, [], ◌∷◌, ◌++◌, length, set, take, drop, refl, sym, ap, ◌∙◌, arith}
use Rattle.std.specs.Prelude.{slice_index}
use Rattle.std.proofs.lemmas.List.{get_or-take, get_or-drop, take-set-le, drop-set-lt, drop-set-add, length-take, length-drop}
use Rattle.std.proofs.Math.Seq.{take-set-lt, take-append_seam, drop-append_seam}
use Rattle.sg_words.specs.declared.race.Worker.{Worker}
use Rattle.sg_words.specs.RaceMachine.{after_draw}
use Rattle.sg_words.specs.steps.RaceSteps.{after_try}
use Rattle.sg_words.proofs.Uses.{same_race, look_happens, draw_happens, try_happens}
use Rattle.sg_pointer.specs.declared.rule.Start.{Start}
use Rattle.sg_pointer.specs.PointerLaws.{at, StartIsEvent, LookIsEvent, DrawIsEvent, TryIsEvent, SplitIsEvent, JoinIsEvent}

pub start_is_event : (start : Start) → StartIsEvent start
start_is_event start = (same_race (take (length start.links) (start.links ++ 0 ∷ [])) start.links [] [] (drop (length start.links) (start.links ++ 0 ∷ [])) (0 ∷ []) [] [] (take-append_seam start.links (0 ∷ [])) refl (drop-append_seam start.links (0 ∷ [])) refl, (refl, refl))

pub look_is_event : (start : Start) (words : List ℕ) (views : List Worker) (id i : ℕ) → LookIsEvent start words views id i
look_is_event start words views id i wide live inside =
    let n = length start.links in
    look_happens start.links [] start.stock (length start.stock ∷ []) (take n words) [] (drop n words) views id i (slice_index words i) (get_or-take n words i 0 inside) (let e = length-take n words in omega arith) live

pub draw_is_event : (start : Start) (words : List ℕ) (views : List Worker) (id : ℕ) → DrawIsEvent start words views id
draw_is_event start words views id wide live spare past =
    let n = length start.links in
    let count = slice_index words n in
    let more : List ℕ = set words n (count + 1) in
    let plus : n + 0 ≡ n = omega arith in
    let here : slice_index (drop n words) 0 ≡ count = get_or-drop n words 0 0 ∙ ap (λ i. slice_index words i) plus in
    let counts : drop n more ≡ set (drop n words) 0 (count + 1) = ap (λ i. drop n (set words i (count + 1))) (sym plus) ∙ drop-set-add n words 0 (count + 1) in
    let event = draw_happens start.links [] start.stock (length start.stock ∷ []) (take n words) [] (drop n words) views id count here (let e = length-drop n words in omega arith) live spare past in
    let views' : List Worker = set views id (after_draw 0 (length start.stock) count (at views id)) in
    (event.0, event.1 ∙ same_race (take n words) (take n more) [] [] (set (drop n words) 0 (count + 1)) (drop n more) views' views' (sym (take-set-le n words n (count + 1) (omega arith))) refl (sym counts) refl)

pub try_is_event : (start : Start) (words : List ℕ) (views : List Worker) (id i t : ℕ) → TryIsEvent start words views id i t
try_is_event start words views id i t wide live inside has =
    let n = length start.links in
    let word = slice_index words i in
    let num = slice_index start.stock t in
    let new = cond (word == 0) (num + 1) word in
    let event = try_happens start.links [] start.stock (length start.stock ∷ []) (take n words) [] (drop n words) views id i t word (get_or-take n words i 0 inside) (let e = length-take n words in omega arith) live has in
    let views' : List Worker = set views id (after_try 0 i t num word (at views id)) in
    (event.0, event.1 ∙ same_race (set (take n words) i new) (take n (set words i new)) [] [] (drop n words) (drop n (set words i new)) views' views' (sym (take-set-lt n words i new inside)) refl (sym (drop-set-lt n words i new inside)) refl)

pub split_is_event : (start : Start) (words : List ℕ) (views : List Worker) (id : ℕ) → SplitIsEvent start words views id
split_is_event start words views id share = (share, refl)

pub join_is_event : (start : Start) (words : List ℕ) (views : List Worker) (id other : ℕ) → JoinIsEvent start words views id other
join_is_event start words views id other live live' ne = ((live, live', ne), refl)
