-- Each step of a seat is one event.
use Rattle.std.proofs.Common.{◌≡◌, ℕ, ◌+◌, ◌-◌, ◌<◌, ◌≢◌, inl, inr, ◌⊎◌, Bool, true, false, cond, ◌==◌, List, [], ◌∷◌, ◌++◌, length, set, take, drop, refl, sym, ap, ◌∙◌, subst, arith}
use Rattle.std.specs.Prelude.{slice_index}
use Rattle.std.proofs.lemmas.List.{set-get_or, get_or-take, get_or-drop, take-set-le, drop-set-lt, drop-set-add, length-take, length-drop}
use Rattle.std.proofs.lemmas.Bool.Decides.{nat_tests}
use Rattle.std.proofs.Math.Seq.{take-set-lt, take-append_seam, drop-append_seam}
use Rattle.sg_words.specs.declared.race.Worker.{Worker}
use Rattle.sg_words.specs.RaceMachine.{MayPut, key, after_draw, after_key, after_key_put, after_key_word, key_word}
use Rattle.sg_words.specs.steps.RaceSteps.{after_try}
use Rattle.sg_words.proofs.Uses.{same_race, look_happens, draw_happens, try_happens}
use Rattle.sg_hash.specs.declared.rule.Start.{Start}
use Rattle.sg_hash.specs.HashRace.{race_of}
use Rattle.sg_hash.specs.HashLaws.{IsEvent, IsWide, at, StartIsEvent, LookIsEvent, DrawIsEvent, TryIsEvent, FindIsEvent, PutIsEvent, SplitIsEvent, JoinIsEvent}
use Rattle.sg_hash.specs.KeySteps.{after_look_key}

pub start_is_event : (start : Start) → StartIsEvent start
start_is_event start many =
    let n = length start.links in
    let words : List ℕ = start.links ++ (start.keys ++ 0 ∷ []) in
    let behind : drop n words ≡ start.keys ++ 0 ∷ [] = drop-append_seam start.links (start.keys ++ 0 ∷ []) in (
      same_race (take n words) start.links (take n (drop n words)) start.keys (drop n (drop n words)) (0 ∷ []) [] []
          (take-append_seam start.links (start.keys ++ 0 ∷ []))
          (ap (take n) behind ∙ ap (λ k. take k (start.keys ++ 0 ∷ [])) (sym many) ∙ take-append_seam start.keys (0 ∷ []))
          (ap (drop n) behind ∙ ap (λ k. drop k (start.keys ++ 0 ∷ [])) (sym many) ∙ drop-append_seam start.keys (0 ∷ [])) refl,
      (refl, refl),
    )

pub look_is_event : (start : Start) (words : List ℕ) (views : List Worker) (id i : ℕ) → LookIsEvent start words views id i
look_is_event start words views id i wide live inside =
    let n = length start.links in
    look_happens start.links start.keys start.stock (length start.stock ∷ length start.links ∷ []) (take n words) (take n (drop n words)) (drop n (drop n words)) views id i (slice_index words i) (get_or-take n words i 0 inside) (let e = length-take n words in omega arith) live

pub draw_is_event : (start : Start) (words : List ℕ) (views : List Worker) (id : ℕ) → DrawIsEvent start words views id
draw_is_event start words views id wide live spare past =
    let n = length start.links in
    let count = slice_index words (n + n) in
    let more : List ℕ = set words (n + n) (count + 1) in
    let rest : List ℕ = drop n words in
    let plus : n + 0 ≡ n = omega arith in
    let here : slice_index (drop n rest) 0 ≡ count = get_or-drop n rest 0 0 ∙ ap (λ i. slice_index rest i) plus ∙ get_or-drop n words n 0 in
    let one_count : 0 < length (drop n rest) = (let e = length-drop n words in let f = length-drop n rest in omega arith) in
    let behind : drop n more ≡ set rest n (count + 1) = drop-set-add n words n (count + 1) in
    let keys : take n (drop n more) ≡ take n rest = ap (take n) behind ∙ take-set-le n rest n (count + 1) (omega arith) in
    let counts : drop n (drop n more) ≡ set (drop n rest) 0 (count + 1) = ap (drop n) behind ∙ ap (λ i. drop n (set rest i (count + 1))) (sym plus) ∙ drop-set-add n rest 0 (count + 1) in
    let event = draw_happens start.links start.keys start.stock (length start.stock ∷ length start.links ∷ []) (take n words) (take n (drop n words)) (drop n (drop n words)) views id count here one_count live spare past in
    let views' : List Worker = set views id (after_draw 0 (length start.stock) count (at views id)) in (
      event.0,
      event.1 ∙ same_race (take n words) (take n more) (take n rest) (take n (drop n more)) (set (drop n rest) 0 (count + 1)) (drop n (drop n more)) views' views'
          (sym (take-set-le n words (n + n) (count + 1) (omega arith))) (sym keys) (sym counts) refl,
    )

pub try_is_event : (start : Start) (words : List ℕ) (views : List Worker) (id i t : ℕ) → TryIsEvent start words views id i t
try_is_event start words views id i t wide live inside has =
    let n = length start.links in
    let word = slice_index words i in
    let num = slice_index start.stock t in
    let new = cond (word == 0) (num + 1) word in
    let behind : drop n (set words i new) ≡ drop n words = drop-set-lt n words i new inside in
    let event = try_happens start.links start.keys start.stock (length start.stock ∷ length start.links ∷ []) (take n words) (take n (drop n words)) (drop n (drop n words)) views id i t word (get_or-take n words i 0 inside) (let e = length-take n words in omega arith) live has in
    let views' : List Worker = set views id (after_try 0 i t num word (at views id)) in (
      event.0,
      event.1 ∙ same_race (set (take n words) i new) (take n (set words i new)) (take n (drop n words)) (take n (drop n (set words i new))) (drop n (drop n words)) (drop n (drop n (set words i new))) views' views'
          (sym (take-set-lt n words i new inside)) (ap (take n) (sym behind)) (ap (drop n) (sym behind)) refl,
    )

-- a key that stands at a place, or that may be put there
key_is_event : (start : Start) (words : List ℕ) (views : List Worker) (id p k : ℕ) → IsWide start words → 0 < (at views id).share → p < length start.links
    → ((slice_index words (length start.links + p) ≢ 0) ⊎ MayPut (length start.links) p k (at views id))
    → IsEvent start words views (key id p k) (set words (length start.links + p) (key_word k (slice_index words (length start.links + p)))) (set views id (after_key_word p k (slice_index words (length start.links + p)) (at views id)))
key_is_event start words views id p k wide live inside may =
    let n = length start.links in
    let rest : List ℕ = drop n words in
    let word = slice_index words (n + p) in
    let new = key_word k word in
    let here : slice_index (take n rest) p ≡ word = get_or-take n rest p 0 inside ∙ get_or-drop n words p 0 in
    let places : length (take n rest) ≡ n = (let e = length-drop n words in let f = length-take n rest in omega arith) in
    let behind : drop n (set words (n + p) new) ≡ set rest p new = drop-set-add n words p new in (
      (live, needs n word p k (take n rest) (at views id) here places may (slice_index (take n rest) p == 0) refl),
      same_race (take n words) (take n (set words (n + p) new)) (set (take n rest) p (key_word k (slice_index (take n rest) p))) (take n (drop n (set words (n + p) new))) (drop n rest) (drop n (drop n (set words (n + p) new)))
          (set views id (after_key_word p k (slice_index (take n rest) p) (at views id))) (set views id (after_key_word p k word (at views id)))
          (sym (take-set-le n words (n + p) new (omega arith)))
          (ap (λ x. set (take n rest) p (key_word k x)) here ∙ sym (ap (take n) behind ∙ take-set-lt n rest p new inside))
          (sym (ap (drop n) behind ∙ drop-set-lt n rest p new inside))
          (ap (λ x. set views id (after_key_word p k x (at views id))) here),
    )
  where
    needs : (n word p k : ℕ) (keys : List ℕ) (v : Worker) → slice_index keys p ≡ word → length keys ≡ n → ((word ≢ 0) ⊎ MayPut n p k v) → (b : Bool) → (slice_index keys p == 0) ≡ b
        → (slice_index keys p ≢ 0) ⊎ ((slice_index keys p ≡ 0) × MayPut (length keys) p k v)
    needs n word p k keys v here places (inl full) b e = inl (λ z. full (sym here ∙ z))
    needs n word p k keys v here places (inr may) true e = inr ((grind (arith, nat_tests)), subst (λ m. MayPut m p k v) (sym places) may)
    needs n word p k keys v here places (inr may) false e = inl (λ z. grind (arith, nat_tests))

pub put_is_event : (start : Start) (words : List ℕ) (views : List Worker) (id p k : ℕ) → PutIsEvent start words views id p k
put_is_event start words views id p k wide live inside may = key_is_event start words views id p k wide live inside (inr may)

pub find_is_event : (start : Start) (words : List ℕ) (views : List Worker) (id p : ℕ) → FindIsEvent start words views id p
find_is_event start words views id p wide live inside full =
    let at_word = length start.links + p in
    let word = slice_index words at_word in
    let k = word - 1 in
    let event = key_is_event start words views id p k wide live inside (inl full) in
    let stays : set words at_word (key_word k word) ≡ words = ap (set words at_word) (word_stays k word full) ∙ set-get_or words at_word 0 in
    (event.0, event.1 ∙ ap (λ l. race_of start l (set views id (after_key_word p k word (at views id)))) stays ∙ ap (λ w. race_of start words (set views id w)) (same_view p k word (at views id) full))
  where
    word_stays : (k word : ℕ) → word ≢ 0 → key_word k word ≡ word
    word_stays k word full = go (word == 0) refl
      where
        go : (b : Bool) → (word == 0) ≡ b → cond b (k + 1) word ≡ word
        go true e = absurd (full (grind (arith, nat_tests)))
        go false e = refl

    same_view : (p k word : ℕ) (v : Worker) → word ≢ 0 → after_key_word p k word v ≡ after_look_key p word v
    same_view p k word v full = go (word == 0) refl
      where
        go : (b : Bool) → (word == 0) ≡ b → cond b (after_key_put p k v) (after_key p (word - 1) v) ≡ cond b v (after_key p (word - 1) v)
        go true e = absurd (full (grind (arith, nat_tests)))
        go false e = refl

pub split_is_event : (start : Start) (words : List ℕ) (views : List Worker) (id : ℕ) → SplitIsEvent start words views id
split_is_event start words views id share = (share, refl)

pub join_is_event : (start : Start) (words : List ℕ) (views : List Worker) (id other : ℕ) → JoinIsEvent start words views id other
join_is_event start words views id other live live' ne = ((live, live', ne), refl)
