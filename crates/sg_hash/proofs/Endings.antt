-- What the closed table gives the last seat, and the keys at the end.
use Rattle.std.proofs.Common.{◌≡◌, ℕ, zero, suc, ◌+◌, ◌-◌, ◌<◌, ⊎_elim, Bool, true, false, not, ◌==◌, List, [], ◌∷◌, length, take, drop, refl, sym, ap, ◌∙◌, subst, arith}
use Rattle.std.specs.Prelude.{slice_index}
use Rattle.std.proofs.lemmas.List.{length-drop}
use Rattle.std.proofs.lemmas.Bool.Decides.{nat_tests}
use Rattle.std.proofs.lemmas.Bool.{false≢true}
use mathlib.Core.Option.{some}
use mathlib.Core.Logic.{dite}
use native.Mathlib.Decide.{ℕ_discrete}
use lib.ListN.{get_elem?}
use Rattle.sg_words.specs.declared.race.Worker.{Worker}
use Rattle.sg_words.specs.Counts.{one, pairs, firsts}
use Rattle.sg_words.specs.RaceMachine.{HasOthersBefore, place_in_order}
use Rattle.sg_words.specs.RaceInvariant.{handed_share, has_key, has_put}
use Rattle.sg_words.specs.Stocks.{is_dry, full_words}
use Rattle.sg_words.specs.steps.SlotSteps.{Ended}
use Rattle.sg_words.proofs.Uses.{alone, le-total, firsts-pair, last-word, kept_as}
use Rattle.sg_hash.proofs.Turns.{place_comes}
use Rattle.sg_hash.proofs.Uses.{stands_once}
use Rattle.sg_hash.specs.declared.rule.Start.{Start}
use Rattle.sg_hash.specs.HashRace.{setting_of, Racing}
use Rattle.sg_hash.specs.Asking.{HasLinkedBesideKeys, HasLinkedItsKeys}
use Rattle.sg_hash.specs.Finishing.{Settled, KeysSettled, KeysHaveLinks, LinksHaveKeys}

-- ---- the closed table
pub get-dropped : (n : ℕ) (xs : List ℕ) (i x : ℕ) → get_elem? xs (n + i) ≡ some x → get_elem? (drop n xs) i ≡ some x
get-dropped zero xs i x at = let e : 0 + i ≡ i = omega arith in subst (λ k. get_elem? xs k ≡ some x) e at
get-dropped (suc n) [] i x at = at
get-dropped (suc n) (y ∷ ys) i x at = let e : suc n + i ≡ suc (n + i) = omega arith in get-dropped n ys i x (subst (λ k. get_elem? (y ∷ ys) k ≡ some x) e at)

pub ended : (key start : Start) (words : List ℕ) (views : List Worker) (id : ℕ) (v : Worker) (links keys : List ℕ) (n m from count : ℕ) → key ≡ start → Racing key words views → get_elem? views id ≡ some v
    → links ≡ take n words → n ≡ length start.links → keys ≡ take m (drop from words) → m ≡ length start.links → from ≡ length start.links → get_elem? words (from + m) ≡ some count
    → Ended (setting_of start) v links keys count
ended key start words views id v links keys n m from count is racing at front size behind wide' first last =
    let r : Racing start words views = subst (λ k. Racing k words views) is racing in
    let k = length start.links in
    let wide = r.wide in
    let rest = length-drop k words in
    let front' : take k words ≡ links = ap (λ n. take n words) (sym size) ∙ sym front in
    let behind' : take k (drop k words) ≡ keys = ap (λ m. take m (drop k words)) (sym wide') ∙ ap (λ f. take m (drop f words)) (sym first) ∙ sym behind in
    let there : get_elem? words (k + k) ≡ some count = subst (λ a. get_elem? words (a + k) ≡ some count) first (subst (λ a. get_elem? words (from + a) ≡ some count) wide' last) in
    let last' : drop k (drop k words) ≡ count ∷ [] = last-word (drop k words) k count (omega arith) (get-dropped k words k count there) in (
      views,
      id,
      kept_as (setting_of start) (take k words) links (take k (drop k words)) keys (drop k (drop k words)) (count ∷ []) views front' behind' last' r.kept,
      at,
    )

-- ---- the keys
all-full : (words : List ℕ) → ((p : ℕ) → p < length words → 0 < slice_index words p) → full_words words ≡ length words
all-full [] full = refl
all-full (w ∷ ws) full =
    let r = all-full ws (λ p below. full (suc p) (omega arith)) in
    let here : 0 < w = full zero (omega arith) in
    let test : not (w == 0) ≡ true = grind (arith, nat_tests) in
    let one' : one (not (w == 0)) ≡ 1 = ap one test in omega arith

pub keys_settled : (start : Start) (v : Worker) (links keys : List ℕ) (count : ℕ) (full : Bool) → handed_share v ≡ 16 → length start.keys ≡ length start.links
    → (full ≡ true → (k : ℕ) × HasOthersBefore (length start.links) k (length start.links) v) → Ended (setting_of start) v links keys count → KeysSettled start.keys v keys full
keys_settled start v links keys count full all many others end =
    let k = end.2 in
    let at = end.3 in
    let ws = end.0 in
    let id = end.1 in
    let there : (p a : ℕ) → 0 < pairs p a v.keys → slice_index keys p ≡ a + 1 = λ p a has. k.seen_keys p a (let le = le-total (has_key p a) ws id v at in omega arith) in
    let long : length keys ≡ length start.links = k.keys_stay.0 ∙ many in
    record {
      long = k.keys_stay.0;
      stay = k.keys_stay.1;
      found = there;
      put = λ p a empty is. subst (λ n. 0 < n) (alone (has_put a) ws id v at k.team all refl) (k.keys.put p a empty is);
      table = λ key turn under holds j before. k.keys.probed key turn j under holds before;
      filled = λ is.
          (let o = others is in
          all-full keys (λ p below.
          (let c = place_comes (length start.links) o.0 p (omega arith) in
          let other = o.1 c.0 c.1 in
          let e = there (place_in_order (length start.links) o.0 c.0) other.0 other.2 in
          subst (λ q. 0 < slice_index keys q) c.2 (omega arith))));
    }

-- if each old link stood beside a key, each link does: it is an old one, or the last seat made it at a place where it had found a key
pub links_have_keys : (old old_keys stock : List ℕ) (v : Worker) (links keys : List ℕ) (full : Bool) → Settled old stock v links → KeysSettled old_keys v keys full → HasLinkedBesideKeys v
    → LinksHaveKeys old_keys old → LinksHaveKeys keys links
links_have_keys old old_keys stock v links keys full s k beside before p linked = dite (ℕ_discrete (slice_index old p) 0)
    (λ new. dite (ℕ_discrete (firsts p v.made) 0)
    (λ none. absurd (let e = s.bare p new none in omega arith))
    (λ some'.
    let made = firsts-pair p v.made (omega arith) in
    let key = beside p made.0 made.1 in
    let word = k.found p key.0 key.1 in omega arith))
    (λ was. let key = before p (omega arith) in let word = k.stay p key in omega arith)

-- if a link stood beside each old key, one stands beside each key where the last seat isn't dry: it is an old one, or that seat has seen it
pub keys_have_links : (old old_keys stock : List ℕ) (v : Worker) (links keys : List ℕ) (full : Bool) → Settled old stock v links → KeysSettled old_keys v keys full → HasLinkedItsKeys v
    → is_dry v ≡ false → KeysHaveLinks old_keys old → KeysHaveLinks keys links
keys_have_links old old_keys stock v links keys full s k linked wet before p stands = dite (ℕ_discrete (slice_index old_keys p) 0)
    (λ new.
    let key = slice_index keys p - 1 in
    let is : slice_index keys p ≡ key + 1 = omega arith in
    ⊎_elim (λ l.
    let there = k.found l.0 key l.2 in
    let same : p ≡ l.0 = stands_once keys k.table key p l.0 (before_end keys p stands) (before_end keys l.0 (omega arith)) is there in
    let link = s.seen l.0 l.1 l.3 in
    subst (λ q. 0 < slice_index links q) (sym same) (omega arith))
    (λ d. absurd (false≢true (sym wet ∙ d))) (linked key (k.put p key new is)))
    (λ was. let link = before p (omega arith) in let word = s.stay p link in omega arith)
  where
    before_end : (words : List ℕ) (i : ℕ) → 0 < slice_index words i → i < length words
    before_end [] i some' = absurd (omega arith)
    before_end (w ∷ ws) zero some' = omega arith
    before_end (w ∷ ws) (suc i) some' = let r = before_end ws i some' in omega arith
