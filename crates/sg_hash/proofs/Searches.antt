-- A search for a key, place after place, and the ask for the slot beside it.
use Rattle.std.proofs.Common.{◌≡◌, ℕ, ◌+◌, ◌<◌, ◌≢◌, inl, inr, ⊎_elim, Bool, true, false, ◌||◌, ◌&&◌, ◌==◌, nat_lt, List, [], ◌∷◌, ◌++◌, refl, sym, ap, ◌∙◌, subst, arith}
use Rattle.std.specs.Prelude.{Some, None}
use Rattle.std.proofs.lemmas.Bool.{false≢true}
use mathlib.Core.Logic.{dite}
use native.Mathlib.Decide.{ℕ_discrete}
use Rattle.sg_words.specs.declared.race.Worker.{Worker}
use Rattle.sg_words.specs.Counts.{one, times_in, pairs, firsts}
use Rattle.sg_words.specs.RaceMachine.{HasOthersBefore, MayPut, place_in_order, after_join}
use Rattle.sg_words.proofs.Uses.{total-append, pairs-snoc, pair_cases, first_cases, dry-join}
use Rattle.sg_words.specs.Asking.{Answered}
use Rattle.sg_words.specs.declared.asking.Ask.{Ask}
use Rattle.sg_words.specs.declared.asking.Ask.TheVariants as ask
use Rattle.sg_words.specs.Stocks.{is_dry, SameTeam}
use Rattle.sg_hash.specs.Asking.{HasLinkedBesideKeys, HasLinkedItsKeys, AnsweredBeside, AnsweredKey, HasPut}
use Rattle.sg_hash.specs.KeySteps.{TellKeys}
use Rattle.sg_hash.specs.steps.Searching.{SameKeys, Searched, PutAt, SearchFound, HasLookedPast}
use Rattle.sg_hash.proofs.Turns.{place_comes}
use Rattle.sg_hash.proofs.Keys.{same-searched, searched-twice, others-grow}

pub start-passed : (n key : ℕ) (v : Worker) → HasLookedPast n key 0 v v
start-passed n key v = record { searched = same-searched v; put = refl; others = λ i below. absurd (omega arith); inside = λ below. absurd (omega arith); absent = λ q has j below. absurd (omega arith) }

pub may-put : (n key turn at : ℕ) (v w : Worker) → turn < n → at ≡ place_in_order n key turn → HasLookedPast n key turn v w → MayPut n at key w
may-put n key turn at v w below is p = (turn, below, is, p.others)

-- a place more holds another key
pub more-passed : (n key turn at word : ℕ) (u v w : Worker) → at ≡ place_in_order n key turn → HasLookedPast n key turn u v → Searched v w → PutAt key word v w
    → (k : ℕ) × (word ≡ k + 1) × (0 < pairs at k w.keys) → TellKeys n at word w → word ≢ key + 1 → HasLookedPast n key (turn + 1) u w
more-passed n key turn at word u v w is p s put f t other =
    let there : (q : ℕ) → 0 < pairs q key u.keys → 0 < pairs q key w.keys = λ q has. s.grows q key (p.searched.grows q key has) in
    let differ : f.0 ≢ key = λ e. other (f.1 ∙ ap (λ k. k + 1) e) in
    record {
      searched = searched-twice u v w p.searched s;
      put = ⊎_elim (λ e. e ∙ p.put) (λ e. absurd (other e.0)) put;
      others = λ i below. dite (ℕ_discrete i turn)
          (λ e. (f.0, differ, subst (λ q. 0 < pairs q f.0 w.keys) (is ∙ ap (place_in_order n key) (sym e)) f.2))
          (λ ne. others-grow n key turn v w s.grows p.others i (omega arith));
      inside = λ _ q has. t.inside q key (there q has);
      absent = λ q has j below. dite (ℕ_discrete j turn)
          (λ e same.
          let here : 0 < pairs at key w.keys = subst (λ q. 0 < pairs q key w.keys) (same ∙ ap (place_in_order n key) e ∙ sym is) (there q has) in
          other (f.1 ∙ ap (λ k. k + 1) (sym (t.agree at key f.0 here f.2))))
          (λ ne. p.absent q has j (omega arith));
    }

-- the place where the key stands
pub found-there : (n key turn at word : ℕ) (u v w : Worker) → at < n → HasLookedPast n key turn u v → Searched v w
    → (k : ℕ) × (word ≡ k + 1) × (0 < pairs at k w.keys) → TellKeys n at word w → word ≡ key + 1 → SearchFound n key u w (Some at)
found-there n key turn at word u v w below p s f t is =
    let same : f.0 ≡ key = (let e = f.1 in omega arith) in
    (below, subst (λ k. 0 < pairs at k w.keys) same f.2, λ q has. t.once q key is (s.grows q key (p.searched.grows q key has)))

pub found-put : (n key turn word : ℕ) (u v w : Worker) → HasLookedPast n key turn u v → PutAt key word v w → HasPut key u w
found-put n key turn word u v w p put = ⊎_elim (λ e. inl (e ∙ p.put)) (λ e. inr (e.1 ∙ ap (λ l. l ++ key ∷ []) p.put)) put

pub none-there : (n key : ℕ) (u w : Worker) → 0 < n → HasLookedPast n key n u w → SearchFound n key u w None
none-there n key u w some p = (p.others, λ q has. (let c = place_comes n key q (p.inside some q has) in p.absent q has c.0 c.1 (sym c.2)), p.put)

-- ---- the ask for the slot beside the key
answered-from : (slot : ℕ) (u v w : Worker) (answer : Ask) → Searched u v → Answered slot v answer w → Answered slot u answer w
answered-from slot u v w (ask.Node n) s a =
    (a.0 ∙ ap (λ l. l ++ (slot, n) ∷ []) s.seen, ⊎_elim (λ e. inl (e ∙ s.made)) (λ e. inr (e.0, e.1 ∙ ap (λ l. l ++ (slot, e.0) ∷ []) s.made)) a.1)
answered-from slot u v w ask.Dry s a = (a.0 ∙ s.seen, a.1 ∙ s.made, a.2 ∙ ap (λ l. l ++ slot ∷ []) s.missed, a.3)

by-answer : (n key : ℕ) (u w : Worker) (full full' : Bool) (answer : Ask) → full' ≡ full → AnsweredBeside key u answer w → AnsweredKey n key u full answer w full'
by-answer n key u w full full' (ask.Node x) e b = (e, b)
by-answer n key u w full full' ask.Dry e b = inl (e, b)

pub answered-key : (n key p : ℕ) (u v w : Worker) (full full' : Bool) (answer : Ask) → full' ≡ full → Searched u v → 0 < pairs p key v.keys → SameKeys v w → Answered p v answer w
    → AnsweredKey n key u full answer w full'
answered-key n key p u v w full full' answer e s has same a =
    by-answer n key u w full full' answer e (p, subst (λ l. 0 < pairs p key l) (sym same.0) has, answered-from p u v w answer s a)

pub answered-full : (n key : ℕ) (u w : Worker) (full : Bool) → Searched u w → SearchFound n key u w None → AnsweredKey n key u full ask.Dry w true
answered-full n key u w full s f = inr (refl, f.0, s.seen, s.made, s.missed, s.past)

pub key-put : (key : ℕ) (u v w : Worker) → HasPut key u v → SameKeys v w → HasPut key u w
key-put key u v w put same = ⊎_elim (λ e. inl (same.1 ∙ e)) (λ e. inr (same.1 ∙ e)) put

pub keys-grow : (u v w : Worker) → Searched u v → SameKeys v w → (p k : ℕ) → 0 < pairs p k u.keys → 0 < pairs p k w.keys
keys-grow u v w s same p k has = subst (λ l. 0 < pairs p k l) (sym same.0) (s.grows p k has)

pub searched-team : (u v w : Worker) → Searched u v → SameTeam v w → SameTeam u w
searched-team u v w s t = record { told = t.told ∙ s.told; size = t.size ∙ s.size; share = t.share ∙ s.share; back = t.back ∙ s.back; left = t.left ∙ s.left }

pub searched-only : (u w : Worker) → Searched u w → SameTeam u w
searched-only u w s = record { told = s.told; size = s.size; share = s.share; back = s.back; left = s.left }

-- ---- a seat that is full
pub full-grows : (n : ℕ) (v w : Worker) (a b : Bool) → b ≡ a → ((p k : ℕ) → 0 < pairs p k v.keys → 0 < pairs p k w.keys)
    → (a ≡ true → (k : ℕ) × HasOthersBefore n k n v) → b ≡ true → (k : ℕ) × HasOthersBefore n k n w
full-grows n v w a b e grows others is = let o = others (sym e ∙ is) in (o.0, others-grow n o.0 n v w grows o.1)

pub full-joins : (n : ℕ) (v w : Worker) (a b c : Bool) → c ≡ (a || b) → (a ≡ true → (k : ℕ) × HasOthersBefore n k n v) → (b ≡ true → (k : ℕ) × HasOthersBefore n k n w)
    → c ≡ true → (k : ℕ) × HasOthersBefore n k n (after_join v w)
full-joins n v w a b c e mine theirs is = go a b (sym e ∙ is) mine theirs
  where
    both : (q k : ℕ) → pairs q k (v.keys ++ w.keys) ≡ pairs q k v.keys + pairs q k w.keys
    both q k = total-append (λ (x : ℕ × ℕ). one ((x.0 == q) && (x.1 == k))) v.keys w.keys

    go : (a b : Bool) → (a || b) ≡ true → (a ≡ true → (k : ℕ) × HasOthersBefore n k n v) → (b ≡ true → (k : ℕ) × HasOthersBefore n k n w) → (k : ℕ) × HasOthersBefore n k n (after_join v w)
    go true b is mine theirs = let o = mine refl in (o.0, others-grow n o.0 n v (after_join v w) (λ q k has. let s = both q k in omega arith) o.1)
    go false b is mine theirs = let o = theirs is in (o.0, others-grow n o.0 n w (after_join v w) (λ q k has. let s = both q k in omega arith) o.1)

pub others-same : (n key j : ℕ) (v w : Worker) → w.keys ≡ v.keys → HasOthersBefore n key j v → HasOthersBefore n key j w
others-same n key j v w e has i below = let o = has i below in (o.0, o.1, subst (λ l. 0 < pairs (place_in_order n key i) o.0 l) (sym e) o.2)

-- ---- links beside keys
-- if no link was made, and the keys that were found are still there
pub beside-kept : (v w : Worker) → w.made ≡ v.made → ((p k : ℕ) → 0 < pairs p k v.keys → 0 < pairs p k w.keys) → HasLinkedBesideKeys v → HasLinkedBesideKeys w
beside-kept v w same grows beside p t has = let b = beside p t (subst (λ l. 0 < pairs p t l) same has) in (b.0, grows p b.0 b.1)

-- one more link, at a place where a key was found
beside-more : (p' t' key : ℕ) (v w : Worker) → w.made ≡ v.made ++ (p', t') ∷ [] → 0 < pairs p' key w.keys → ((p k : ℕ) → 0 < pairs p k v.keys → 0 < pairs p k w.keys)
    → HasLinkedBesideKeys v → HasLinkedBesideKeys w
beside-more p' t' key v w is found grows beside p t has =
    let s = pairs-snoc p t v.made (p', t') in
    let more : 0 < pairs p t (v.made ++ (p', t') ∷ []) = subst (λ l. 0 < pairs p t l) is has in
    pair_cases (λ n. pairs p t (v.made ++ (p', t') ∷ []) ≡ pairs p t v.made + n → (k : ℕ) × (0 < pairs p k w.keys)) p' t' p t
    (λ e _ _. (key, subst (λ q. 0 < pairs q key w.keys) e found))
    (λ _ e. let b = beside p t (omega arith) in (b.0, grows p b.0 b.1)) s

-- the ask for the slot at the place where the key was found
pub beside-asked : (slot key : ℕ) (u v w : Worker) (answer : Ask) → Searched u v → 0 < pairs slot key v.keys → SameKeys v w → Answered slot v answer w
    → HasLinkedBesideKeys u → HasLinkedBesideKeys w
beside-asked slot key u v w (ask.Node n) s found same a beside =
    ⊎_elim (λ e. beside-kept u w (e ∙ s.made) (keys-grow u v w s same) beside)
    (λ e. beside-more slot e.0 key u w (e.1 ∙ ap (λ l. l ++ (slot, e.0) ∷ []) s.made) (subst (λ l. 0 < pairs slot key l) (sym same.0) found) (keys-grow u v w s same) beside) a.1
beside-asked slot key u v w ask.Dry s found same a beside = beside-kept u w (a.1 ∙ s.made) (keys-grow u v w s same) beside

-- a seat into which another was joined
pub beside-joined : (v w both : Worker) → both.made ≡ v.made ++ w.made → both.keys ≡ v.keys ++ w.keys → HasLinkedBesideKeys v → HasLinkedBesideKeys w → HasLinkedBesideKeys both
beside-joined v w both made keys mine theirs p t has =
    let a : pairs p t both.made ≡ pairs p t v.made + pairs p t w.made = ap (pairs p t) made ∙ total-append (λ (x : ℕ × ℕ). one ((x.0 == p) && (x.1 == t))) v.made w.made in
    let b : (k : ℕ) → pairs p k both.keys ≡ pairs p k v.keys + pairs p k w.keys = λ k. ap (pairs p k) keys ∙ total-append (λ (x : ℕ × ℕ). one ((x.0 == p) && (x.1 == k))) v.keys w.keys in
    dite (ℕ_discrete (pairs p t v.made) 0)
    (λ none. let o = theirs p t (omega arith) in let e = b o.0 in let h = o.1 in (o.0, omega arith))
    (λ some. let o = mine p t (omega arith) in let e = b o.0 in let h = o.1 in (o.0, omega arith))

-- ---- keys that were put have links beside them
-- if no key was put, and all that was found and seen is still there
pub linked-kept : (v w : Worker) → w.put ≡ v.put → ((p k : ℕ) → 0 < pairs p k v.keys → 0 < pairs p k w.keys) → ((p n : ℕ) → 0 < pairs p n v.seen → 0 < pairs p n w.seen)
    → (is_dry v ≡ true → is_dry w ≡ true) → HasLinkedItsKeys v → HasLinkedItsKeys w
linked-kept v w same keys seen dries linked k has =
    ⊎_elim (λ l. inl (l.0, l.1, keys l.0 k l.2, seen l.0 l.1 l.3)) (λ d. inr (dries d)) (linked k (subst (λ l. 0 < times_in k l) same has))

-- the ask for the slot at the place where the key was found
pub linked-asked : (slot key : ℕ) (u v w : Worker) (answer : Ask) → Searched u v → HasPut key u v → 0 < pairs slot key v.keys → SameKeys v w → Answered slot v answer w
    → (is_dry v ≡ true → is_dry w ≡ true) → HasLinkedItsKeys u → HasLinkedItsKeys w
linked-asked slot key u v w ask.Dry s put found same a dries linked = λ k has. inr a.3
linked-asked slot key u v w (ask.Node n) s put found same a dries linked =
    let more : (p m : ℕ) → pairs p m w.seen ≡ pairs p m v.seen + one ((slot == p) && (n == m)) = λ p m. ap (pairs p m) a.0 ∙ pairs-snoc p m v.seen (slot, n) in
    let seen : (p m : ℕ) → 0 < pairs p m u.seen → 0 < pairs p m w.seen =
    (λ p m has. let e = more p m in let h = subst (λ l. 0 < pairs p m l) (sym s.seen) has in omega arith) in
    let here : 0 < pairs slot n w.seen = (let e = more slot n in
    pair_cases (λ x. pairs slot n w.seen ≡ pairs slot n v.seen + x → 0 < pairs slot n w.seen) slot n slot n (λ _ _ e. omega arith) (λ miss _. absurd (miss refl refl)) e) in
    let dry : is_dry u ≡ true → is_dry w ≡ true = λ d. dries (ap (λ l. nat_lt 0 (firsts 0 l)) s.past ∙ d) in
    let keys = keys-grow u v w s same in
    let old : w.put ≡ u.put → HasLinkedItsKeys w = λ e. linked-kept u w e keys seen dry linked in
    let fresh : w.put ≡ u.put ++ key ∷ [] → HasLinkedItsKeys w = (λ e k has. dite (ℕ_discrete k key)
    (λ is. inl (slot, n, subst (λ x. 0 < pairs slot x w.keys) (sym is) (subst (λ l. 0 < pairs slot key l) (sym same.0) found), here))
    (λ other.
    let sum : times_in k w.put ≡ times_in k u.put + (one (key == k) + 0) = ap (times_in k) e ∙ total-append (λ x. one (x == k)) u.put (key ∷ []) in
    let before : 0 < times_in k u.put = first_cases (λ x. times_in k w.put ≡ times_in k u.put + (x + 0) → 0 < times_in k u.put) key k (λ is _. absurd (other (sym is))) (λ _ e. omega arith) sum in
    ⊎_elim (λ l. inl (l.0, l.1, keys l.0 k l.2, seen l.0 l.1 l.3)) (λ d. inr (dry d)) (linked k before))) in
    ⊎_elim (λ e. old (same.1 ∙ e)) (λ e. fresh (same.1 ∙ e)) put

-- a seat into which another was joined
pub linked-joined : (v w both : Worker) → both ≡ after_join v w → HasLinkedItsKeys v → HasLinkedItsKeys w → HasLinkedItsKeys both
linked-joined v w both is mine theirs = subst HasLinkedItsKeys (sym is) joined
  where
    sum : (p k : ℕ) (xs ys : List (ℕ × ℕ)) → pairs p k (xs ++ ys) ≡ pairs p k xs + pairs p k ys
    sum p k xs ys = total-append (λ (x : ℕ × ℕ). one ((x.0 == p) && (x.1 == k))) xs ys

    dry : is_dry (after_join v w) ≡ (is_dry v || is_dry w)
    dry = sym (dry-join v w (is_dry v) (is_dry w) refl refl)

    either' : (a b : Bool) → a ≡ true → (a || b) ≡ true
    either' true b e = refl
    either' false b e = absurd (false≢true e)

    or' : (a b : Bool) → b ≡ true → (a || b) ≡ true
    or' true b e = refl
    or' false b e = e

    joined : HasLinkedItsKeys (after_join v w)
    joined k has =
        let parts : times_in k (v.put ++ w.put) ≡ times_in k v.put + times_in k w.put = total-append (λ x. one (x == k)) v.put w.put in
        dite (ℕ_discrete (times_in k v.put) 0)
        (λ none. ⊎_elim (λ l. inl (l.0, l.1, (let e = sum l.0 k v.keys w.keys in let h = l.2 in omega arith), (let e = sum l.0 l.1 v.seen w.seen in let h = l.3 in omega arith)))
        (λ d. inr (dry ∙ or' (is_dry v) (is_dry w) d)) (theirs k (omega arith)))
        (λ some. ⊎_elim (λ l. inl (l.0, l.1, (let e = sum l.0 k v.keys w.keys in let h = l.2 in omega arith), (let e = sum l.0 l.1 v.seen w.seen in let h = l.3 in omega arith)))
        (λ d. inr (dry ∙ either' (is_dry v) (is_dry w) d)) (mine k (omega arith)))
