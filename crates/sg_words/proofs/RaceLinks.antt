-- Words, tickets and links where a ticket is drawn and where a slot is linked.
use Rattle.std.proofs.Common.{◌≡◌, ℕ, zero, suc, ◌+◌, ◌-◌, ◌<◌, ◌≤◌, ◌≢◌, min, Bool, true, false, cond, ◌&&◌, ◌==◌, not, nat_lt, List, [], ◌∷◌, ◌++◌, length, set, refl, sym, ap, ◌∙◌, subst, arith}
use Rattle.std.specs.Prelude.{slice_index}
use Rattle.std.proofs.lemmas.List.{length-set, get_or-set_same, get_or-set_other}
use Rattle.std.proofs.lemmas.Bool.Decides.{nat_tests}
use mathlib.Core.Option.{some}
use mathlib.Core.Logic.{dite}
use native.Mathlib.Decide.{ℕ_discrete}
use lib.ListN.{get_elem?}
use Rattle.sg_words.specs.declared.race.Worker.{Worker}
use Rattle.sg_words.specs.Counts.{one, once_below, total, pairs, firsts, without}
use Rattle.sg_words.specs.RaceMachine.{Setting, ticket_number, after_draw, after_link}
use Rattle.sg_words.specs.RaceInvariant.{Stay, made_at, holds_ticket, held_past, TicketsStandOnce, has_made, has_linked, LinksAreMade, links_from, links_made, Tally}
use Rattle.sg_words.proofs.RaceTotals.{total-same, total-more, total-snoc, pair_cases, first_cases, pairs-snoc, firsts-snoc, pairs-le-firsts, pairs-two, pairs-without_same, pairs-without_other}

-- ---- a word that was 0 is written
pub written : (words : List ℕ) (i j n : ℕ) (P : ℕ → Type 0) → i < length words → (i ≡ j → P n) → (i ≢ j → P (slice_index words j)) → P (slice_index (set words i n) j)
written words i j n P below same other = dite (ℕ_discrete i j)
    (λ e. subst (λ k. P (slice_index (set words i n) k)) e (subst P (sym (get_or-set_same words i n 0 below)) (same e)))
    (λ ne. subst P (sym (get_or-set_other words i j n 0 (λ h. ne (sym h)))) (other ne))

pub stay-set : (start words : List ℕ) (i n : ℕ) → i < length words → slice_index words i ≡ 0 → Stay start words → Stay start (set words i n)
stay-set start words i n below empty k = (
  length-set words i n ∙ k.0,
  λ j full. written words i j n (λ m. m ≡ slice_index start j) below
      (λ e. absurd (let s = k.1 j full in let z : slice_index words j ≡ 0 = subst (λ k. slice_index words k ≡ 0) e empty in omega arith)) (λ _. k.1 j full),
)

-- a link stays when an empty slot is written
pub full-stays : (words : List ℕ) (i n j m : ℕ) → i < length words → slice_index words i ≡ 0 → slice_index words j ≡ m + 1 → slice_index (set words i n) j ≡ m + 1
full-stays words i n j m below empty is = written words i j n (λ k. k ≡ m + 1) below
    (λ e. absurd (let z : slice_index words j ≡ 0 = subst (λ k. slice_index words k ≡ 0) e empty in omega arith)) (λ _. is)

pub full-here : (words : List ℕ) (i n : ℕ) → i < length words → slice_index (set words i n) i ≡ n
full-here words i n below = get_or-set_same words i n 0 below

-- ---- a draw
pub draw_case : (P : Worker → Type 0) (l limit n : ℕ) (v : Worker) → (n < limit → P (record v { spare = v.spare ++ (l, n) ∷ [] }))
    → (limit ≤ n → P (record v { past = v.past ++ (l, n) ∷ [] })) → P (after_draw l limit n v)
draw_case P l limit n v below past = go (nat_lt n limit) refl
  where
    go : (b : Bool) → nat_lt n limit ≡ b → P (cond b (record v { spare = v.spare ++ (l, n) ∷ [] }) (record v { past = v.past ++ (l, n) ∷ [] }))
    go true e = below (grind (arith, nat_tests))
    go false e = past (grind (arith, nat_tests))

pub tickets-below : (node : ℕ → ℕ) (stock : ℕ → List ℕ) (counts : List ℕ) (ws : List Worker) (id l : ℕ) (v : Worker) → get_elem? ws id ≡ some v → l < length counts
    → slice_index counts l < length (stock l) → TicketsStandOnce node stock counts ws
    → TicketsStandOnce node stock (set counts l (slice_index counts l + 1)) (set ws id (record v { spare = v.spare ++ (l, slice_index counts l) ∷ [] }))
tickets-below node stock counts ws id l v at below room k =
    let n = slice_index counts l in
    let w : Worker = record v { spare = v.spare ++ (l, n) ∷ [] } in
    record {
      within = λ m t.
          (let more = total-more (holds_ticket node m t) ws id v w (one ((l == m) && (n == t))) at (let s = pairs-snoc m t v.spare (l, n) in omega arith) in
          let old = k.within m t in
          written counts l m (n + 1) (λ c. total (holds_ticket node m t) (set ws id w) ≡ once_below t (min c (length (stock m)))) below
          (λ e. let room' : n < length (stock m) = subst (λ k. n < length (stock k)) e room in
          let old' : total (holds_ticket node m t) ws ≡ once_below t (min n (length (stock m))) = subst (λ k. total (holds_ticket node m t) ws ≡ once_below t (min (slice_index counts k) (length (stock m)))) (sym e) old in
          more ∙ pair_cases (λ x. total (holds_ticket node m t) ws + x ≡ once_below t (min (n + 1) (length (stock m)))) l n m t (λ _ e'. omega arith) (λ miss. let ne = miss e in omega arith))
          (λ ne. more ∙ pair_cases (λ x. total (holds_ticket node m t) ws + x ≡ once_below t (min (slice_index counts m) (length (stock m)))) l n m t (λ e _. absurd (ne e)) (λ _. omega arith)));
      beyond = λ m t.
          (let same = total-same (held_past m t) ws id v w at refl in
          let old = k.beyond m t in
          written counts l m (n + 1) (λ c. total (held_past m t) (set ws id w) ≡ once_below t c - once_below t (length (stock m))) below
          (λ e. let room' : n < length (stock m) = subst (λ k. n < length (stock k)) e room in
          let old' : total (held_past m t) ws ≡ once_below t n - once_below t (length (stock m)) = subst (λ k. total (held_past m t) ws ≡ once_below t (slice_index counts k) - once_below t (length (stock m))) (sym e) old in
          omega arith)
          (λ _. same ∙ old));
    }

pub tickets-past : (node : ℕ → ℕ) (stock : ℕ → List ℕ) (counts : List ℕ) (ws : List Worker) (id l : ℕ) (v : Worker) → get_elem? ws id ≡ some v → l < length counts
    → length (stock l) ≤ slice_index counts l → TicketsStandOnce node stock counts ws
    → TicketsStandOnce node stock (set counts l (slice_index counts l + 1)) (set ws id (record v { past = v.past ++ (l, slice_index counts l) ∷ [] }))
tickets-past node stock counts ws id l v at below room k =
    let n = slice_index counts l in
    let w : Worker = record v { past = v.past ++ (l, n) ∷ [] } in
    record {
      within = λ m t.
          (let same = total-same (holds_ticket node m t) ws id v w at refl in
          let old = k.within m t in
          written counts l m (n + 1) (λ c. total (holds_ticket node m t) (set ws id w) ≡ once_below t (min c (length (stock m)))) below
          (λ e. let room' : length (stock m) ≤ n = subst (λ k. length (stock k) ≤ n) e room in
          let old' : total (holds_ticket node m t) ws ≡ once_below t (min n (length (stock m))) = subst (λ k. total (holds_ticket node m t) ws ≡ once_below t (min (slice_index counts k) (length (stock m)))) (sym e) old in
          omega arith)
          (λ _. same ∙ old));
      beyond = λ m t.
          (let more = total-more (held_past m t) ws id v w (one ((l == m) && (n == t))) at (pairs-snoc m t v.past (l, n)) in
          let old = k.beyond m t in
          written counts l m (n + 1) (λ c. total (held_past m t) (set ws id w) ≡ once_below t c - once_below t (length (stock m))) below
          (λ e. let room' : length (stock m) ≤ n = subst (λ k. length (stock k) ≤ n) e room in
          let old' : total (held_past m t) ws ≡ once_below t n - once_below t (length (stock m)) = subst (λ k. total (held_past m t) ws ≡ once_below t (slice_index counts k) - once_below t (length (stock m))) (sym e) old in
          more ∙ pair_cases (λ x. total (held_past m t) ws + x ≡ once_below t (n + 1) - once_below t (length (stock m))) l n m t (λ _ e'. omega arith) (λ miss. let ne = miss e in omega arith))
          (λ ne. more ∙ pair_cases (λ x. total (held_past m t) ws + x ≡ once_below t (slice_index counts m) - once_below t (length (stock m))) l n m t (λ e _. absurd (ne e)) (λ _. omega arith)));
    }

-- ---- a link
-- a spare that became a link is the same ticket
pub holds-link : (node : ℕ → ℕ) (i t n : ℕ) (v : Worker) → ((l : ℕ) → firsts l v.spare ≤ 1) → 0 < pairs (node i) t v.spare → (m u : ℕ)
    → holds_ticket node m u (after_link (node i) i t n v) ≡ holds_ticket node m u v
holds-link node i t n v few has m u =
    let made = total-snoc (λ (x : ℕ × ℕ). one ((node x.0 == m) && (x.1 == u))) v.made (i, t) in
    dite (ℕ_discrete m (node i))
    (λ e.
    let out : pairs m u (without (node i) v.spare) ≡ 0 = subst (λ k. pairs k u (without (node i) v.spare) ≡ 0) (sym e) (pairs-without_same (node i) u v.spare) in
    let has' : 0 < pairs m t v.spare = subst (λ k. 0 < pairs k t v.spare) (sym e) has in
    let f = few m in
    pair_cases (λ x. made_at node m u (v.made ++ (i, t) ∷ []) ≡ made_at node m u v.made + x → holds_ticket node m u (after_link (node i) i t n v) ≡ holds_ticket node m u v) (node i) t m u
    (λ _ e'' h. let there : 0 < pairs m u v.spare = subst (λ k. 0 < pairs m k v.spare) e'' has' in let le = pairs-le-firsts m u v.spare in omega arith)
    (λ miss h. let ne = miss (sym e) in let two = pairs-two m t u v.spare ne in omega arith) made)
    (λ ne.
    let out = pairs-without_other (node i) m u v.spare ne in
    pair_cases (λ x. made_at node m u (v.made ++ (i, t) ∷ []) ≡ made_at node m u v.made + x → holds_ticket node m u (after_link (node i) i t n v) ≡ holds_ticket node m u v) (node i) t m u
    (λ e _. absurd (ne (sym e))) (λ _. λ h. omega arith) made)

pub links-link : (g : Setting) (slots : List ℕ) (ws : List Worker) (id i t : ℕ) (v : Worker) → get_elem? ws id ≡ some v → i < length slots → slice_index slots i ≡ 0
    → Stay g.slots slots → LinksAreMade g slots ws
    → LinksAreMade g (set slots i (ticket_number g (g.node i) t + 1)) (set ws id (after_link (g.node i) i t (ticket_number g (g.node i) t) v))
links-link g slots ws id i t v at below empty stay k =
    let n = ticket_number g (g.node i) t in
    let w = after_link (g.node i) i t n v in
    let start : slice_index g.slots i ≡ 0 = was_empty g.slots slots i empty stay in
    record {
      made = λ j u h.
          (let more = total-more (has_made j u) ws id v w (one ((i == j) && (t == u))) at (pairs-snoc j u v.made (i, t)) in
          let h' : 0 < total (has_made j u) ws + one ((i == j) && (t == u)) = omega arith in
          let full : 0 < total (has_made j u) ws → (slice_index g.slots j ≡ 0) × (j < length (set slots i (n + 1))) × (slice_index (set slots i (n + 1)) j ≡ ticket_number g (g.node j) u + 1) =
          λ old. (let m = k.made j u old in (m.0, subst (λ x. j < x) (sym (length-set slots i (n + 1))) m.1, full-stays slots i (n + 1) j (ticket_number g (g.node j) u) below empty m.2)) in
          pair_cases (λ x. 0 < total (has_made j u) ws + x → (slice_index g.slots j ≡ 0) × (j < length (set slots i (n + 1))) × (slice_index (set slots i (n + 1)) j ≡ ticket_number g (g.node j) u + 1)) i t j u
          (λ e e' _. subst (λ j. (slice_index g.slots j ≡ 0) × (j < length (set slots i (n + 1))) × (slice_index (set slots i (n + 1)) j ≡ ticket_number g (g.node j) u + 1)) e
          (start, subst (λ x. i < x) (sym (length-set slots i (n + 1))) below, get_or-set_same slots i (n + 1) 0 below ∙ ap (λ u. ticket_number g (g.node i) u + 1) e'))
          (λ _ old. full (omega arith)) h');
      bare = λ j zero' none.
          (let more = total-more (has_linked j) ws id v w (one (i == j)) at (firsts-snoc j v.made (i, t)) in
          written slots i j (n + 1) (λ m. m ≡ 0) below
          (λ e. absurd (first_cases (λ x. total (has_linked j) (set ws id w) ≡ total (has_linked j) ws + x → ⊥) i j (λ _ h. omega arith) (λ ne _. ne e) more))
          (λ _. k.bare j zero' (omega arith)));
    }
  where
    was_empty : (start words : List ℕ) (i : ℕ) → slice_index words i ≡ 0 → Stay start words → slice_index start i ≡ 0
    was_empty start words i e s = pick (slice_index start i) refl
      where
        pick : (n : ℕ) → slice_index start i ≡ n → slice_index start i ≡ 0
        pick zero h = h
        pick (suc n) h = absurd (let z = s.1 i (omega arith) in omega arith)

pub holds_seen : (has : ℕ → ℕ → Worker → ℕ) → List ℕ → List Worker → Type 0
holds_seen has words ws = (i n : ℕ) → 0 < total (has i n) ws → slice_index words i ≡ n + 1

-- ---- what was seen
-- a pair that stands in the words is added to the views
pub seen-more : (has : ℕ → ℕ → Worker → ℕ) (words : List ℕ) (ws : List Worker) (id i n : ℕ) (v w : Worker) → get_elem? ws id ≡ some v → slice_index words i ≡ n + 1
    → ((j m : ℕ) → has j m w ≡ has j m v + one ((i == j) && (n == m)))
    → ((j m : ℕ) → 0 < total (has j m) ws → slice_index words j ≡ m + 1) → (j m : ℕ) → 0 < total (has j m) (set ws id w) → slice_index words j ≡ m + 1
seen-more has words ws id i n v w at is adds k j m h =
    let more = total-more (has j m) ws id v w (one ((i == j) && (n == m))) at (adds j m) in
    let h' : 0 < total (has j m) ws + one ((i == j) && (n == m)) = omega arith in
    pair_cases (λ x. 0 < total (has j m) ws + x → slice_index words j ≡ m + 1) i n j m
    (λ e e' _. ap (λ k. slice_index words k) (sym e) ∙ is ∙ ap (λ k. k + 1) e') (λ _ old. k j m (omega arith)) h'

-- an empty word is written: what was seen stays
pub seen-write : (has : ℕ → ℕ → Worker → ℕ) (words : List ℕ) (ws : List Worker) (i n : ℕ) → i < length words → slice_index words i ≡ 0
    → ((j m : ℕ) → 0 < total (has j m) ws → slice_index words j ≡ m + 1) → (j m : ℕ) → 0 < total (has j m) ws → slice_index (set words i n) j ≡ m + 1
seen-write has words ws i n below empty k j m h = full-stays words i n j m below empty (k j m h)

-- ---- the tally
pub links_from-set : (node : ℕ → ℕ) (l k i n : ℕ) (words : List ℕ) → i < length words → slice_index words i ≡ 0
    → links_from node l k (set words i (n + 1)) ≡ links_from node l k words + one (node (k + i) == l)
links_from-set node l k i n [] below empty = absurd (omega arith)
links_from-set node l k zero n (w ∷ ws) below empty =
    let here : one ((node k == l) && not (w == 0)) ≡ 0 = subst (λ x. one ((node k == l) && not (x == 0)) ≡ 0) (sym empty) (no_test (node k == l)) in
    let same : k ≡ k + 0 = omega arith in
    let there : one ((node k == l) && not (n + 1 == 0)) ≡ one (node (k + 0) == l) = subst (λ x. one ((node k == l) && not (n + 1 == 0)) ≡ one (node x == l)) same (yes_test (node k == l) n) in
    omega arith
  where
    no_test : (b : Bool) → one (b && not (0 == 0)) ≡ 0
    no_test true = refl
    no_test false = refl

    yes_test : (b : Bool) (n : ℕ) → one (b && not (n + 1 == 0)) ≡ one b
    yes_test true n = grind (arith, nat_tests)
    yes_test false n = refl
links_from-set node l k (suc i) n (w ∷ ws) below empty =
    let r = links_from-set node l (k + 1) i n ws (omega arith) empty in
    let e : k + 1 + i ≡ k + suc i = omega arith in
    let r' = subst (λ x. links_from node l (k + 1) (set ws i (n + 1)) ≡ links_from node l (k + 1) ws + one (node x == l)) e r in
    omega arith

pub tally-link : (g : Setting) (slots : List ℕ) (ws : List Worker) (id i t n : ℕ) (v : Worker) → get_elem? ws id ≡ some v → i < length slots → slice_index slots i ≡ 0
    → Tally g slots ws → Tally g (set slots i (n + 1)) (set ws id (after_link (g.node i) i t n v))
tally-link g slots ws id i t n v at below empty k l =
    let w = after_link (g.node i) i t n v in
    let more = total-more (links_made g.node l) ws id v w (one (g.node i == l)) at (total-snoc (λ (x : ℕ × ℕ). one (g.node x.0 == l)) v.made (i, t)) in
    let link = links_from-set g.node l 0 i n slots below empty in
    let e : 0 + i ≡ i = omega arith in
    let link' = subst (λ x. links_from g.node l 0 (set slots i (n + 1)) ≡ links_from g.node l 0 slots + one (g.node x == l)) e link in
    let old = k l in omega arith
