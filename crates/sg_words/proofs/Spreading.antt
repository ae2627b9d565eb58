-- Marking place after place along links gives the least set that has spread.
use Rattle.std.proofs.Common.{◌≡◌, ℕ, zero, suc, ◌+◌, ◌<◌, Bool, true, false, not, ◌&&◌, ◌||◌, ◌==◌, cond, if◌then◌else◌, List, [], ◌∷◌, ◌++◌, map, length, get_or, refl, sym, ap, ◌∙◌, ⊎_elim, arith}
use Rattle.std.specs.List.{list_all, list_any, filter, AllByRecursion}
use Rattle.std.proofs.lemmas.Bool.{and_parts, and_from, or_cases, or_left, or_right, both_ways, eqb-true, eq-eqb, ne_eqb, cases_eq, not-true}
use Rattle.std.proofs.lemmas.List.{length-append}
use Rattle.std.proofs.lemmas.List.Folds.{list_all-append, list_any-append}
use Rattle.sg_words.specs.declared.spreads.Link.{Link}
use Rattle.sg_words.specs.Spread.{has_spread, bears_mark, IsLeastSpread}
use Rattle.sg_words.specs.steps.SpreadSteps.{targets_of, IsVisited, links_waiting}

to_each : {X : Type 0} (p : X → Bool) (xs : List X) → list_all p xs ≡ true → AllByRecursion (λ x. p x ≡ true) xs
to_each p [] h = tt
to_each p (x ∷ xs) h = let q = and_parts (p x) (list_all p xs) h in (q.0, to_each p xs q.1)

from_each : {X : Type 0} (p : X → Bool) (xs : List X) → AllByRecursion (λ x. p x ≡ true) xs → list_all p xs ≡ true
from_each p [] h = refl
from_each p (x ∷ xs) h = and_from (p x) (list_all p xs) h.0 (from_each p xs h.1)

each_mapped : {X : Type 0} (P Q : X → Type 0) → ((x : X) → P x → Q x) → (xs : List X) → AllByRecursion P xs → AllByRecursion Q xs
each_mapped P Q h [] all = tt
each_mapped P Q h (x ∷ xs) all = (h x all.0, each_mapped P Q h xs all.1)

each_both : {X : Type 0} (P Q R : X → Type 0) → ((x : X) → P x → Q x → R x) → (xs : List X) → AllByRecursion P xs → AllByRecursion Q xs → AllByRecursion R xs
each_both P Q R h [] p q = tt
each_both P Q R h (x ∷ xs) p q = (h x p.0 q.0, each_both P Q R h xs p.1 q.1)

each_made : {X : Type 0} (P : X → Type 0) → ((x : X) → P x) → (xs : List X) → AllByRecursion P xs
each_made P h [] = tt
each_made P h (x ∷ xs) = (h x, each_made P h xs)

abbrev pub is_in : List ℕ → ℕ → Bool
is_in places place = list_any (λ it. it == place) places

-- each start, and each place where a link leads from a marked one, is marked or to be marked; and in each set that has spread are all that
-- are marked or to be marked
pub record IsSpreading (links : List Link) (start : List ℕ) (marks : List Bool) (work : List ℕ) : Type 0 where
  pub along : list_all (λ link. not (bears_mark marks link.from) || (bears_mark marks link.to || is_in work link.to)) links ≡ true
  pub begun : list_all (λ place. bears_mark marks place || is_in work place) start ≡ true
  pub least : (places : ℕ → Bool) → has_spread places links start ≡ true → ((place : ℕ) → bears_mark marks place ≡ true → places place ≡ true) × (list_all places work ≡ true)

each_in : (places : List ℕ) → AllByRecursion (λ place. is_in places place ≡ true) places
each_in [] = tt
each_in (place ∷ places) = (
  or_left (place == place) (is_in places place) (eq-eqb place place refl),
  each_mapped (λ it. is_in places it ≡ true) (λ it. is_in (place ∷ places) it ≡ true) (λ it h. or_right (place == it) (is_in places it) h) places (each_in places),
)

pub spreading_begun : (links : List Link) (start : List ℕ) → IsSpreading links start [] start
spreading_begun links start = record {
  along = from_each (λ link. not (bears_mark [] link.from) || (bears_mark [] link.to || is_in start link.to)) links (each_made (λ link. (not (bears_mark [] link.from) || (bears_mark [] link.to || is_in start link.to)) ≡ true) (λ link. refl) links);
  begun = from_each (λ place. bears_mark [] place || is_in start place) start (each_in start);
  least = λ places spread. (λ place h. absurd (both_ways false refl h), (and_parts (list_all (λ link. not (places link.from) || places link.to) links) (list_all places start) spread).1);
}

-- where a link leads is among the targets of the place that it leads from
leads : (place : ℕ) (links : List Link) → AllByRecursion (λ link. (link.from == place) ≡ true → is_in (targets_of links place) link.to ≡ true) links
leads place [] = tt
leads place (link ∷ links) = (
  λ h. here (link.from == place) h,
  each_mapped (λ it. (it.from == place) ≡ true → is_in (targets_of links place) it.to ≡ true) (λ it. (it.from == place) ≡ true → is_in (targets_of (link ∷ links) place) it.to ≡ true)
      (λ it h e. more (link.from == place) it.to (h e)) links (leads place links),
)
  where
    here : (same : Bool) → same ≡ true → is_in (map (λ (l : Link). l.to) (cond same (link ∷ filter (λ l. l.from == place) links) (filter (λ l. l.from == place) links))) link.to ≡ true
    here true h = or_left (link.to == link.to) (is_in (targets_of links place) link.to) (eq-eqb link.to link.to refl)
    here false h = absurd (both_ways false refl h)

    more : (same : Bool) (to : ℕ) → is_in (targets_of links place) to ≡ true → is_in (map (λ (l : Link). l.to) (cond same (link ∷ filter (λ l. l.from == place) links) (filter (λ l. l.from == place) links))) to ≡ true
    more true to h = or_right (link.to == to) (is_in (targets_of links place) to) h
    more false to h = h

targets_within : (places : ℕ → Bool) (place : ℕ) → places place ≡ true → (links : List Link) → list_all (λ link. not (places link.from) || places link.to) links ≡ true → list_all places (targets_of links place) ≡ true
targets_within places place has [] h = refl
targets_within places place has (link ∷ links) h =
    let p = and_parts (not (places link.from) || places link.to) (list_all (λ link. not (places link.from) || places link.to) links) h in
    here (link.from == place) refl p.0 (targets_within places place has links p.1)
  where
    here : (same : Bool) → (link.from == place) ≡ same → (not (places link.from) || places link.to) ≡ true → list_all places (targets_of links place) ≡ true
        → list_all places (map (λ (l : Link). l.to) (cond same (link ∷ filter (λ l. l.from == place) links) (filter (λ l. l.from == place) links))) ≡ true
    here false e one more = more
    here true e one more =
        let at : places link.from ≡ true = ap places (eqb-true link.from place e) ∙ has in
        and_from (places link.to) (list_all places (targets_of links place))
        (⊎_elim (λ n. absurd (both_ways (places link.from) (not-true (places link.from) n) at)) (λ t. t) (or_cases (not (places link.from)) (places link.to) one)) more

module _ (links : List Link) (start : List ℕ) (targets : List (List ℕ)) (each : (place : ℕ) → get_or targets place [] ≡ targets_of links place)
    (marks : List Bool) (work : List ℕ) (place : ℕ) (marks_after : List Bool) (work_after : List ℕ) (visit : IsVisited targets place marks work marks_after work_after) where
  stays_marked : (other : ℕ) → bears_mark marks other ≡ true → bears_mark marks_after other ≡ true
  stays_marked other h = visit.0 other ∙ (at (other == place))
    where
      at : (same : Bool) → (if same then true else bears_mark marks other) ≡ true
      at true = refl
      at false = h

  is_marked_now : bears_mark marks_after place ≡ true
  is_marked_now = visit.0 place ∙ ap (λ (same : Bool). if same then true else bears_mark marks place) (eq-eqb place place refl)

  stays_in : (other : ℕ) → is_in work other ≡ true → is_in work_after other ≡ true
  stays_in other h =
      ap (λ (places : List ℕ). is_in places other) visit.1
      ∙ (list_any-append (λ it. it == other) work (if bears_mark marks place then [] else get_or targets place [])
      ∙ or_left (is_in work other) (is_in (if bears_mark marks place then [] else get_or targets place []) other) h)

  -- what was marked or to be marked is so still
  stays : (other : ℕ) → (bears_mark marks other || is_in (work ++ place ∷ []) other) ≡ true → (bears_mark marks_after other || is_in work_after other) ≡ true
  stays other h =
      ⊎_elim (λ m. or_left (bears_mark marks_after other) (is_in work_after other) (stays_marked other m)) waiting_still (or_cases (bears_mark marks other) (is_in (work ++ place ∷ []) other) h)
    where
      waiting_still : is_in (work ++ place ∷ []) other ≡ true → (bears_mark marks_after other || is_in work_after other) ≡ true
      waiting_still w =
          ⊎_elim (λ i. or_right (bears_mark marks_after other) (is_in work_after other) (stays_in other i))
          (λ i. or_left (bears_mark marks_after other) (is_in work_after other)
          (⊎_elim (λ e. ap (bears_mark marks_after) (sym (eqb-true place other e)) ∙ is_marked_now) (λ f. absurd (both_ways false refl f)) (or_cases (place == other) false i)))
          (or_cases (is_in work other) (is_in (place ∷ []) other) (sym (list_any-append (λ it. it == other) work (place ∷ [])) ∙ w))

  one_link : (link : Link) → (not (bears_mark marks link.from) || (bears_mark marks link.to || is_in (work ++ place ∷ []) link.to)) ≡ true
      → ((link.from == place) ≡ true → is_in (targets_of links place) link.to ≡ true) → (not (bears_mark marks_after link.from) || (bears_mark marks_after link.to || is_in work_after link.to)) ≡ true
  one_link link h lead =
      ⊎_elim unmarked (λ w. or_right (not (bears_mark marks_after link.from)) (bears_mark marks_after link.to || is_in work_after link.to) (stays link.to w))
      (or_cases (not (bears_mark marks link.from)) (bears_mark marks link.to || is_in (work ++ place ∷ []) link.to) h)
    where
      unmarked : not (bears_mark marks link.from) ≡ true → (not (bears_mark marks_after link.from) || (bears_mark marks_after link.to || is_in work_after link.to)) ≡ true
      unmarked n = ⊎_elim same differs (cases_eq link.from place)
        where
          same : link.from ≡ place → (not (bears_mark marks_after link.from) || (bears_mark marks_after link.to || is_in work_after link.to)) ≡ true
          same e =
              let m : bears_mark marks place ≡ false = ap (bears_mark marks) (sym e) ∙ not-true (bears_mark marks link.from) n in
              or_right (not (bears_mark marks_after link.from)) (bears_mark marks_after link.to || is_in work_after link.to)
              (or_right (bears_mark marks_after link.to) (is_in work_after link.to)
              (ap (λ (places : List ℕ). is_in places link.to) visit.1
              ∙ (list_any-append (λ it. it == link.to) work (if bears_mark marks place then [] else get_or targets place [])
              ∙ or_right (is_in work link.to) (is_in (if bears_mark marks place then [] else get_or targets place []) link.to)
              (ap (λ (b : Bool). is_in (if b then [] else get_or targets place []) link.to) m ∙ (ap (λ (places : List ℕ). is_in places link.to) (each place) ∙ lead (eq-eqb link.from place e))))))

          differs : (link.from ≡ place → ⊥) → (not (bears_mark marks_after link.from) || (bears_mark marks_after link.to || is_in work_after link.to)) ≡ true
          differs d =
              or_left (not (bears_mark marks_after link.from)) (bears_mark marks_after link.to || is_in work_after link.to)
              (ap not (visit.0 link.from ∙ ap (λ (b : Bool). if b then true else bears_mark marks link.from) (ne_eqb link.from place d)) ∙ n)

  pub spreading_visited : IsSpreading links start marks (work ++ place ∷ []) → IsSpreading links start marks_after work_after
  spreading_visited is = record {
    along = from_each (λ link. not (bears_mark marks_after link.from) || (bears_mark marks_after link.to || is_in work_after link.to)) links
        (each_both (λ link. (not (bears_mark marks link.from) || (bears_mark marks link.to || is_in (work ++ place ∷ []) link.to)) ≡ true)
        (λ link. (link.from == place) ≡ true → is_in (targets_of links place) link.to ≡ true)
        (λ link. (not (bears_mark marks_after link.from) || (bears_mark marks_after link.to || is_in work_after link.to)) ≡ true) one_link links
        (to_each (λ link. not (bears_mark marks link.from) || (bears_mark marks link.to || is_in (work ++ place ∷ []) link.to)) links is.along) (leads place links));
    begun = from_each (λ other. bears_mark marks_after other || is_in work_after other) start
        (each_mapped (λ other. (bears_mark marks other || is_in (work ++ place ∷ []) other) ≡ true) (λ other. (bears_mark marks_after other || is_in work_after other) ≡ true) stays start
        (to_each (λ other. bears_mark marks other || is_in (work ++ place ∷ []) other) start is.begun));
    least = λ places spread.
        let old = is.least places spread in
        let parts = and_parts (list_all places work) (places place && true) (sym (list_all-append places work (place ∷ [])) ∙ old.1) in
        let here : places place ≡ true = (and_parts (places place) true parts.1).0 in
        let along = (and_parts (list_all (λ link. not (places link.from) || places link.to) links) (list_all places start) spread).0 in (
          within places old.0 here,
          ap (list_all places) visit.1 ∙ (list_all-append places work (if bears_mark marks place then [] else get_or targets place [])
              ∙ and_from (list_all places work) (list_all places (if bears_mark marks place then [] else get_or targets place [])) parts.0 (added places (targets_within places place here links along) (bears_mark marks place))),
        );
  }
    where
      within : (places : ℕ → Bool) → ((other : ℕ) → bears_mark marks other ≡ true → places other ≡ true) → places place ≡ true → (other : ℕ) → bears_mark marks_after other ≡ true → places other ≡ true
      within places old here other m = ⊎_elim (λ e. ap places e ∙ here) (λ d. old other (sym (visit.0 other ∙ ap (λ (b : Bool). if b then true else bears_mark marks other) (ne_eqb other place d)) ∙ m)) (cases_eq other place)

      added : (places : ℕ → Bool) → list_all places (targets_of links place) ≡ true → (b : Bool) → list_all places (if b then [] else get_or targets place []) ≡ true
      added places h true = refl
      added places h false = ap (list_all places) (each place) ∙ h

pub spreading_done : (links : List Link) (start : List ℕ) (marks : List Bool) → IsSpreading links start marks [] → IsLeastSpread links start marks
spreading_done links start marks is = record {
  spread = and_from (list_all (λ link. not (bears_mark marks link.from) || bears_mark marks link.to) links) (list_all (bears_mark marks) start)
      (from_each (λ link. not (bears_mark marks link.from) || bears_mark marks link.to) links
      (each_mapped (λ link. (not (bears_mark marks link.from) || (bears_mark marks link.to || false)) ≡ true) (λ link. (not (bears_mark marks link.from) || bears_mark marks link.to) ≡ true)
      (λ link h. ⊎_elim (λ n. or_left (not (bears_mark marks link.from)) (bears_mark marks link.to) n) (λ t. or_right (not (bears_mark marks link.from)) (bears_mark marks link.to) (no_more (bears_mark marks link.to) t))
      (or_cases (not (bears_mark marks link.from)) (bears_mark marks link.to || false) h)) links
      (to_each (λ link. not (bears_mark marks link.from) || (bears_mark marks link.to || false)) links is.along)))
      (from_each (bears_mark marks) start (each_mapped (λ place. (bears_mark marks place || false) ≡ true) (λ place. bears_mark marks place ≡ true) (λ place h. no_more (bears_mark marks place) h) start
      (to_each (λ place. bears_mark marks place || false) start is.begun)));
  least = λ places spread. (is.least places spread).0;
}
  where
    no_more : (b : Bool) → (b || false) ≡ true → b ≡ true
    no_more true h = refl
    no_more false h = h

-- ---- the work comes to an end

module _ (before after : ℕ → Bool) (place : ℕ) (set : (other : ℕ) → after other ≡ (if other == place then true else before other)) where
  same_elsewhere : (other : ℕ) → (other ≡ place → ⊥) → after other ≡ before other
  same_elsewhere other d = set other ∙ ap (λ (b : Bool). if b then true else before other) (ne_eqb other place d)

  waiting_past : (at : ℕ) → place < at → (targets : List (List ℕ)) → links_waiting before at targets ≡ links_waiting after at targets
  waiting_past at past [] = refl
  waiting_past at past (first ∷ more) =
      let one = ap (λ (b : Bool). if b then 0 else length first) (same_elsewhere at (λ e. omega (arith, e, past))) in
      let rest = waiting_past (at + 1) (omega (arith, past)) more in
      omega (arith, one, rest)

  waiting_here : (at k : ℕ) → place ≡ at + k → (targets : List (List ℕ)) → links_waiting before at targets ≡ links_waiting after at targets + (if before place then 0 else length (get_or targets k []))
  waiting_here at k e [] = nothing (before place)
    where
      nothing : (b : Bool) → 0 ≡ 0 + (if b then 0 else 0)
      nothing true = omega arith
      nothing false = omega arith
  waiting_here at zero e (first ∷ more) =
      let same : place ≡ at = omega (arith, e) in
      let one : after at ≡ true = ap after (sym same) ∙ (set place ∙ ap (λ (b : Bool). if b then true else before place) (eq-eqb place place refl)) in
      let gone = ap (λ (b : Bool). if b then 0 else length first) one in
      let was = ap (λ (n : ℕ). if before n then 0 else length first) same in
      let rest = waiting_past (at + 1) (omega (arith, same)) more in
      omega (arith, gone, was, rest)
  waiting_here at (suc k) e (first ∷ more) =
      let one = ap (λ (b : Bool). if b then 0 else length first) (same_elsewhere at (λ d. omega (arith, e, d))) in
      let rest = waiting_here (at + 1) k (omega (arith, e)) more in
      omega (arith, one, rest)

pub fewer_waiting : (targets : List (List ℕ)) (place : ℕ) (marks : List Bool) (work : List ℕ) (marks_after : List Bool) (work_after : List ℕ)
    → IsVisited targets place marks work marks_after work_after → links_waiting (bears_mark marks_after) 0 targets + length work_after ≡ links_waiting (bears_mark marks) 0 targets + length work
fewer_waiting targets place marks work marks_after work_after visit =
    let w = waiting_here (bears_mark marks) (bears_mark marks_after) place visit.0 0 place (omega arith) targets in
    let l = ap length visit.1 ∙ length-append work (if bears_mark marks place then [] else get_or targets place []) in
    let s = sizes (bears_mark marks place) in
    omega (arith, w, l, s)
  where
    sizes : (b : Bool) → length (if b then [] else get_or targets place []) ≡ (if b then 0 else length (get_or targets place []))
    sizes true = refl
    sizes false = refl
