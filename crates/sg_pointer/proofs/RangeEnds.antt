-- What the invariant gives the last worker, of the slots of one node among several.
use Rattle.std.proofs.Common.{◌≡◌, ℕ, zero, suc, ◌+◌, ◌-◌, ◌<◌, ◌≤◌, ◌≢◌, Bool, true, false, not, ◌&&◌, ◌==◌, List, [], ◌∷◌, ◌++◌, length, take, drop, refl, sym, ap, ◌∙◌, subst, arith}
use Rattle.std.specs.Prelude.{slice_index}
use Rattle.std.proofs.lemmas.List.{length-take, length-drop}
use Rattle.std.proofs.lemmas.Bool.Decides.{nat_tests}
use Rattle.sg_words.specs.declared.race.Worker.{Worker}
use Rattle.sg_words.specs.Counts.{one, pairs, firsts}
use Rattle.sg_words.specs.RaceMachine.{Setting, Race}
use Rattle.sg_words.specs.RaceInvariant.{MeetsRaceInvariant, has_seen, has_made, has_linked, links_from}
use Rattle.sg_words.specs.RaceLaws.{IsFreshSetting}
use Rattle.sg_words.proofs.Uses.{alone, le-total, made-held, made-ticket, new_links_differ, spares_never_fill, range-get, range-long}
use Rattle.sg_words.specs.Stocks.{full_words}
use Rattle.sg_words.specs.Ranges.{range_at}
use Rattle.sg_pointer.specs.RangeSettled.{IsRangeOf, IsLast, EndsSettled}

-- ---- links of a node, in a list of slots of several
links-append : (node : ℕ → ℕ) (l k : ℕ) (xs ys : List ℕ) → links_from node l k (xs ++ ys) ≡ links_from node l k xs + links_from node l (k + length xs) ys
links-append node l k [] ys = let e : k ≡ k + 0 = omega arith in ap (λ j. links_from node l j ys) e ∙ (let z : links_from node l (k + 0) ys ≡ 0 + links_from node l (k + 0) ys = omega arith in z)
links-append node l k (x ∷ xs) ys =
    let r = links-append node l (k + 1) xs ys in
    let e : k + 1 + length xs ≡ k + suc (length xs) = omega arith in
    let r' = subst (λ j. links_from node l (k + 1) (xs ++ ys) ≡ links_from node l (k + 1) xs + links_from node l j ys) e r in omega arith

node_test : (n l w : ℕ) (P : ℕ → Type 0) → (n ≡ l → P (one (not (w == 0)))) → (n ≢ l → P 0) → P (one ((n == l) && not (w == 0)))
node_test n l w P same other = go (n == l) refl
  where
    go : (b : Bool) → (n == l) ≡ b → P (one (b && not (w == 0)))
    go true e = same (grind (arith, nat_tests))
    go false e = other (λ h. grind (arith, nat_tests))

links-none : (node : ℕ → ℕ) (l k : ℕ) (xs : List ℕ) → ((i : ℕ) → k ≤ i → i < k + length xs → node i ≢ l) → links_from node l k xs ≡ 0
links-none node l k [] none = refl
links-none node l k (x ∷ xs) none =
    let r = links-none node l (k + 1) xs (λ i from below. none i (omega arith) (omega arith)) in
    node_test (node k) l x (λ n. n + links_from node l (k + 1) xs ≡ 0) (λ e. absurd (none k (omega arith) (omega arith) e)) (λ _. omega arith)

links-all : (node : ℕ → ℕ) (l k : ℕ) (xs : List ℕ) → ((i : ℕ) → k ≤ i → i < k + length xs → node i ≡ l) → links_from node l k xs ≡ full_words xs
links-all node l k [] all = refl
links-all node l k (x ∷ xs) all =
    let r = links-all node l (k + 1) xs (λ i from below. all i (omega arith) (omega arith)) in
    node_test (node k) l x (λ n. n + links_from node l (k + 1) xs ≡ one (not (x == 0)) + full_words xs) (λ _. omega arith) (λ ne. absurd (ne (all k (omega arith) (omega arith))))

take-drop : (n : ℕ) (xs : List ℕ) → take n xs ++ drop n xs ≡ xs
take-drop zero xs = refl
take-drop (suc n) [] = refl
take-drop (suc n) (x ∷ xs) = ap (λ l. x ∷ l) (take-drop n xs)

range-links : (g : Setting) (l first many : ℕ) (slots : List ℕ) → IsRangeOf g l first many → length slots ≡ length g.slots → first + many ≤ length slots → links_from g.node l 0 slots ≡ full_words (range_at first many slots)
range-links g l first many slots is same fits =
    let front = take first slots in
    let mid = range_at first many slots in
    let back = drop many (drop first slots) in
    let a = length-take first slots in
    let b = range-long first many slots fits in
    let c = length-drop many (drop first slots) in
    let d = length-drop first slots in
    let whole : slots ≡ front ++ (mid ++ back) = sym (ap (λ l. front ++ l) (take-drop many (drop first slots)) ∙ take-drop first slots) in
    let one' = links-append g.node l 0 front (mid ++ back) in
    let two = links-append g.node l (0 + length front) mid back in
    let f = links-none g.node l 0 front (λ i from below e. let r = is.alone i (omega arith) e in let r' = r.0 in omega arith) in
    let m = links-all g.node l (0 + length front) mid (λ i from below.
    let q : first + (i - first) ≡ i = omega arith in ap g.node (sym q) ∙ is.inside (i - first) (omega arith)) in
    let e = links-none g.node l (0 + length front + length mid) back (λ i from below h. let r = is.alone i (omega arith) h in let r' = r.1 in omega arith) in
    ap (links_from g.node l 0) whole ∙ omega arith

pub ends_settled : (g : Setting) (s : Race) (v : Worker) (l first many : ℕ) → EndsSettled g s v l first many
ends_settled g s v l first many last is fresh fits =
    let k = last.kept in
    let ws = s.workers in
    let same : length s.slots ≡ length g.slots = k.slots_stay.0 in
    let old-long : length (range_at first many g.slots) ≡ many = range-long first many g.slots fits in
    let new-long : length (range_at first many s.slots) ≡ many = range-long first many s.slots (omega arith) in
    let old : (i : ℕ) → i < length (range_at first many g.slots) → slice_index (range_at first many g.slots) i ≡ slice_index g.slots (first + i) = (λ i below. range-get first many g.slots i (omega arith)) in
    let new : (i : ℕ) → i < length (range_at first many g.slots) → slice_index (range_at first many s.slots) i ≡ slice_index s.slots (first + i) = (λ i below. range-get first many s.slots i (omega arith)) in
    let node : (i : ℕ) → i < length (range_at first many g.slots) → g.node (first + i) ≡ l = (λ i below. is.inside i (omega arith)) in
    record {
      long = new-long ∙ sym old-long;
      stay = λ i below full. let o = old i below in let st = k.slots_stay.1 (first + i) (omega arith) in new i below ∙ st ∙ sym o;
      seen = λ i n below has. new i below ∙ k.seen (first + i) n (let le = le-total (has_seen (first + i) n) ws last.id v last.stands in omega arith);
      made = λ i t below has.
          (let le = le-total (has_made (first + i) t) ws last.id v last.stands in
          let m = k.links.made (first + i) t (omega arith) in
          let empty = m.0 in
          let w = made-ticket g s (first + i) k empty (let e = m.2 in omega arith) in
          (old i below ∙ empty, made-below g s v (first + i) t l k (node i below) last has, new i below ∙ m.2 ∙ ap (λ l. slice_index (g.stock l) t + 1) (node i below)));
      bare = λ i below empty none. let o = old i below in new i below ∙ k.links.bare (first + i) (sym o ∙ empty) (alone (has_linked (first + i)) ws last.id v last.stands k.team last.all refl ∙ none);
      of_stock = λ i below empty full.
          (let o = old i below in
          let n = new i below in
          let m = made-ticket g s (first + i) k (sym o ∙ empty) (omega arith) in
          (m.0, subst (λ l. m.0 < length (g.stock l)) (node i below) m.3, n ∙ m.2 ∙ ap (λ l. slice_index (g.stock l) m.0 + 1) (node i below)));
      once = λ i j below below' empty full e.
          (let o = old i below in
          let n = new i below in
          let n' = new j below' in
          let both : first + i ≡ first + j = new_links_differ g s (first + i) (first + j) k (subst (λ l. IsFreshSetting g l) (sym (node i below)) fresh) (sym o ∙ empty) (omega arith) (node i below ∙ sym (node j below')) (sym n ∙ e ∙ n') in omega arith);
      filled = λ c room past.
          (let before = range-links g l first many g.slots is refl fits in
          let after = range-links g l first many s.slots is same (omega arith) in
          let le = le-total (λ (v : Worker). firsts l v.past) ws last.id v last.stands in
          let fill = spares_never_fill g s l c k (omega arith) (omega arith) in omega arith);
    }
  where
    made-below : (g : Setting) (s : Race) (v : Worker) (i t l : ℕ) → MeetsRaceInvariant g s → g.node i ≡ l → IsLast g s v → 0 < pairs i t v.made → t < length (g.stock l)
    made-below g s v i t l k same last has =
        let le = le-total (has_made i t) s.workers last.id v last.stands in
        let held = made-held g i t s.workers in
        let w = k.tickets.within (g.node i) t in
        subst (λ l. t < length (g.stock l)) same (omega arith)
